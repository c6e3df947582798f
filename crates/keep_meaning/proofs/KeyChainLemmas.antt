-- The keys of a line after its first, alone: their nodes are each below the one before it (`keys_are_alone`).
--
-- Each key part has a path one step longer than the one before it, so each is met as a new path (`chain_met`), and of
-- each just its own key part says something (`chain_infos`): what is said further on is said of longer paths
-- (`none_longer`).
--
-- Theorem: `keys_are_alone`.
use Rattle.std.proofs.Common.{◌≡◌, ℕ, suc, ◌+◌, ◌<◌, ◌≤◌, Bool, false, cond, ◌||◌, List, [], ◌∷◌, ◌++◌, length, map}
use Rattle.std.proofs.Common.{refl, sym, ap, ap₂, ◌∙◌, arith, append-nil, append_assoc}
use Rattle.std.specs.Prelude.{fold}
use Rattle.std.specs.List.{list_any}
use Rattle.std.proofs.lemmas.Bool.{false_from_ne_true}
use Rattle.std.proofs.lemmas.List.{length-append}
use Rattle.keep_types.specs.declared.node.NodeInfo.{NodeInfo}
use Rattle.keep_types.specs.declared.node.Kind.{Kind}
use Rattle.keep_path.specs.KeysAlone.{key_infos, keys_alone, paths_below}
use Rattle.keep_path.specs.NodeInfos.{no_info}
use Rattle.keep_path.specs.Path.{Part, key, same_path}
use Rattle.keep_path.proofs.Shared.{path_decides}
use Rattle.keep_meaning.specs.Counts.{Count, Numbered, count_with_mention, numbered_mentions}
use Rattle.keep_meaning.specs.Fact.{Fact}
use Rattle.keep_meaning.specs.Marks.{Mention, below, dotted, value as mentions_value}
use Rattle.keep_meaning.specs.Meaning.{keyed_mentions}
use Rattle.keep_meaning.specs.Nodes.{fact_kind, is_root, mention_of, mentioned_node, node_at, node_info, node_paths}
use Rattle.keep_meaning.specs.Nodes.{numbered_at}
use Rattle.keep_meaning.proofs.CountLemmas.{mentions-numbered_mentions, paths-nodes}
use Rattle.keep_meaning.proofs.LineNodeLemmas.{infos_of, map_same, map_twice, path_of}
use Rattle.keep_meaning.proofs.LineNumberLemmas.{AllOf, all_join, all_of}
use Rattle.keep_meaning.proofs.RunLemmas.{IsDeeper, count_alone, deeper_keys, further_with, none_under, paths_alone}
use Rattle.keep_meaning.proofs.RunLemmas.{same_self}

pub below_below : (a b : List Part) (ms : List Mention) → map (below a) (map (below b) ms) ≡ map (below (a ++ b)) ms
below_below a b [] = refl
below_below a b (m ∷ ms) =
    ap₂ (λ (p : List Part) (l : List Mention). record { path = p; kind = m.kind } ∷ l) (sym (append_assoc a b m.path))
    (below_below a b ms)

pub below_root : (ms : List Mention) → map (below []) ms ≡ ms
below_root [] = refl
below_root (m ∷ ms) = ap (λ (l : List Mention). m ∷ l) (below_root ms)

-- ---- the paths

-- a path that is no longer
abbrev IsShort : List Part → List Part → Type 0
IsShort at q = length q ≤ length at

longer : (at : List Part) (x : Part) → length (at ++ x ∷ []) ≡ length at + 1
longer at x = length-append at (x ∷ [])

pub lengths_differ : (p q : List Part) → length q < length p → same_path p q ≡ false
lengths_differ p q few = false_from_ne_true (same_path p q) (λ e.
    absurd (omega (arith, few, ap (λ (l : List Part). length l) ((path_decides p q).0 e))))

none_short : (at : List Part) (x : Part) (ps : List (List Part)) → AllOf (IsShort at) ps
    → list_any (same_path (at ++ x ∷ [])) ps ≡ false
none_short at x [] h = refl
none_short at x (q ∷ ps) h =
    ap₂ (λ (a b : Bool). a || b) (lengths_differ (at ++ x ∷ []) q (omega (arith, h.0, longer at x)))
    (none_short at x ps h.1)

shorter : (at : List Part) (x : Part) (ps : List (List Part)) → AllOf (IsShort at) ps
    → AllOf (IsShort (at ++ x ∷ [])) ps
shorter at x ps h = all_of (IsShort at) (IsShort (at ++ x ∷ [])) (λ q few. omega (arith, few, longer at x)) ps h

-- each of them is met as a new path
chain_met : (at : List Part) (ks : List (List ℕ)) (front met : List (List Part)) → AllOf (IsShort at) front
    → AllOf (IsShort at) met → fold (further_with front) met (paths_below at ks) ≡ met ++ paths_below at ks
chain_met at [] front met h g = sym (append-nil met)
chain_met at (k ∷ ks) front met h g =
    let next : List Part = at ++ key k ∷ [] in
    let own : AllOf (IsShort next) (next ∷ []) = (omega arith, tt) in
    ap (λ (b : Bool). fold (further_with front) (cond b met (met ++ next ∷ [])) (paths_below next ks))
    (none_short at (key k) (front ++ met) (all_join (IsShort at) front met h g))
    ∙ chain_met next ks front (met ++ next ∷ []) (shorter at (key k) front h)
    (all_join (IsShort next) met (next ∷ []) (shorter at (key k) met g) own)
    ∙ append_assoc met (next ∷ []) (paths_below next ks)

-- ---- the facts

module _ (f : Fact) where
  abbrev stated : List Mention
  stated = record { path = []; kind = mentions_value f } ∷ []

  abbrev kind : Kind
  kind = fact_kind f

  abbrev count : ℕ → Count
  count k = record { statements = 0; values = 0; keys = k }

  -- what the keys say below a path, from the key part number k on
  abbrev said : List Part → ℕ → List (List ℕ) → List Numbered
  said at k ks = numbered_mentions (count k) (map (below at) (keyed_mentions ks stated))

  deep : (k : List ℕ) (ks : List (List ℕ)) → AllOf IsDeeper (keyed_mentions (k ∷ ks) stated)
  deep k ks = deeper_keys k ks stated (refl, tt)

  chain_paths : (at : List Part) (k : List ℕ) (ks : List (List ℕ))
      → map path_of (map (below at) (keyed_mentions (k ∷ ks) stated)) ≡ paths_below at (k ∷ ks)
  chain_paths at k [] = refl
  chain_paths at k (l ∷ ks) =
      ap (λ (ps : List (List Part)). (at ++ key k ∷ []) ∷ ps)
      (ap (map path_of) (below_below at (key k ∷ []) (keyed_mentions (l ∷ ks) stated))
      ∙ chain_paths (at ++ key k ∷ []) l ks)

  not_below : (at q : List Part) (m : Mention) → length q ≤ length at → IsDeeper m → same_path (at ++ m.path) q ≡ false
  not_below at q m few h = by m.path h.0
    where
      by : (p : List Part) → is_root p ≡ false → same_path (at ++ p) q ≡ false
      by [] e = absurd cc
      by (x ∷ p) e = lengths_differ (at ++ x ∷ p) q (omega (arith, few, length-append at (x ∷ p)))

  -- nothing is said of a path that is no longer than the one above them
  none_longer : (at q : List Part) (c : Count) (k : List ℕ) (ks : List (List ℕ)) → length q ≤ length at
      → numbered_at q (numbered_mentions c (map (below at) (keyed_mentions (k ∷ ks) stated))) ≡ []
  none_longer at q c k ks few =
      none_under q at IsDeeper (λ m h. not_below at q m few h) c (keyed_mentions (k ∷ ks) stated) (deep k ks)

  next_said : (at : List Part) (n : ℕ) (k l : List ℕ) (ks : List (List ℕ))
      → numbered_mentions (count_with_mention (count n) (record { path = at ++ key k ∷ []; kind = dotted }))
      (map (below at) (map (below (key k ∷ [])) (keyed_mentions (l ∷ ks) stated)))
      ≡ said (at ++ key k ∷ []) (suc n) (l ∷ ks)
  next_said at n k l ks =
      let values : 0 + 0 ≡ 0 = omega arith in
      let keys : n + 1 ≡ suc n = omega arith in
      ap₂ (λ (a b : ℕ).
      numbered_mentions (record { statements = 0; values = a; keys = b })
      (map (below at) (map (below (key k ∷ [])) (keyed_mentions (l ∷ ks) stated)))) values keys
      ∙ ap (numbered_mentions (count (suc n))) (below_below at (key k ∷ []) (keyed_mentions (l ∷ ks) stated))

  all_longer : (at : List Part) (ks : List (List ℕ))
      → AllOf (λ (q : List Part). length at < length q) (paths_below at ks)
  all_longer at [] = tt
  all_longer at (k ∷ ks) = (
    omega (arith, longer at (key k)),
    all_of (λ (q : List Part). length (at ++ key k ∷ []) < length q) (λ (q : List Part). length at < length q)
        (λ q more. omega (arith, more, longer at (key k))) (paths_below (at ++ key k ∷ []) ks)
        (all_longer (at ++ key k ∷ []) ks),
  )

  chain_infos : (at : List Part) (n : ℕ) (k : List ℕ) (ks : List (List ℕ))
      → map (λ (q : List Part). node_info (node_at (said at n (k ∷ ks)) q)) (paths_below at (k ∷ ks))
      ≡ key_infos n kind (k ∷ ks)
  chain_infos at n k [] =
      let q : List Part = at ++ key k ∷ [] in
      let own : Numbered = record { mention = record { path = q; kind = mentions_value f }; before = count n } in
      ap (λ (b : Bool). node_info (mentioned_node q (cond b (own ∷ []) [])) ∷ []) (same_self q)
  chain_infos at n k (l ∷ ks) =
      let q : List Part = at ++ key k ∷ [] in
      let own : Numbered = record { mention = record { path = q; kind = dotted }; before = count n } in
      let rest : List Numbered = said q (suc n) (l ∷ ks) in
      let all : said at n (k ∷ l ∷ ks) ≡ own ∷ rest = ap (λ (ns : List Numbered). own ∷ ns) (next_said at n k l ks) in
      let others : AllOf (λ (p : List Part). node_info (node_at (own ∷ rest) p) ≡ node_info (node_at rest p))
      (paths_below q (l ∷ ks)) =
      all_of (λ (p : List Part). length q < length p)
      (λ (p : List Part). node_info (node_at (own ∷ rest) p) ≡ node_info (node_at rest p)) (λ p more.
      ap (λ (b : Bool). node_info (mentioned_node p (cond b (own ∷ numbered_at p rest) (numbered_at p rest))))
      (false_from_ne_true (same_path q p) (λ e.
      absurd (omega (arith, more, ap (λ (r : List Part). length r) ((path_decides q p).0 e))))))
      (paths_below q (l ∷ ks))
      (all_longer q (l ∷ ks)) in
      ap (λ (ns : List Numbered).
      map (λ (p : List Part). node_info (node_at ns p)) (paths_below at (k ∷ l ∷ ks))) all
      ∙ ap₂ (λ (i : NodeInfo) (is : List NodeInfo). i ∷ is)
      (ap (λ (b : Bool). node_info (mentioned_node q (cond b (own ∷ numbered_at q rest) (numbered_at q rest))))
      (same_self q)
      ∙ ap (λ (ns : List Numbered). node_info (mentioned_node q (own ∷ ns)))
      (none_longer q q (count (suc n)) l ks (omega arith)))
      (map_same (λ (p : List Part). node_info (node_at (own ∷ rest) p)) (λ (p : List Part). node_info (node_at rest p))
      (paths_below q (l ∷ ks)) others
      ∙ chain_infos q (suc n) l ks)

  -- ---- all nodes

  pub keys_are_alone : (k : List ℕ) (ks : List (List ℕ))
      → infos_of (numbered_mentions (count_alone dotted) (keyed_mentions (k ∷ ks) stated)) ≡ keys_alone (k ∷ ks) kind
  keys_are_alone k ks =
      let ms : List Mention = keyed_mentions (k ∷ ks) stated in
      let ns : List Numbered = numbered_mentions (count_alone dotted) ms in
      let info : List Part → NodeInfo = λ (q : List Part). node_info (node_at ns q) in
      let same : said [] 0 (k ∷ ks) ≡ ns = ap (numbered_mentions (count 0)) (below_root ms) in
      let paths : map path_of ms ≡ paths_below [] (k ∷ ks) =
      ap (map path_of) (sym (below_root ms)) ∙ chain_paths [] k ks in
      let met : node_paths (map mention_of ns) ≡ [] ∷ paths_below [] (k ∷ ks) =
      ap node_paths (mentions-numbered_mentions (count_alone dotted) ms) ∙ paths_alone ms
      ∙ ap (λ (ps : List (List Part)). [] ∷ fold (further_with ([] ∷ [])) [] ps) paths
      ∙ ap (λ (ps : List (List Part)). [] ∷ ps) (chain_met [] (k ∷ ks) ([] ∷ []) [] (omega arith, tt) tt) in
      let root : info [] ≡ no_info =
      ap (λ (l : List Numbered). node_info (mentioned_node [] (numbered_at [] l))) (sym same)
      ∙ ap (λ (l : List Numbered). node_info (mentioned_node [] l)) (none_longer [] [] (count 0) k ks (omega arith)) in
      ap₂ (λ (ps : List (List Part)) (is : List NodeInfo). record { paths = ps; infos = is })
      (paths-nodes ns (node_paths (map mention_of ns)) ∙ met)
      (map_twice node_info (node_at ns) (node_paths (map mention_of ns)) ∙ ap (map info) met
      ∙ ap₂ (λ (i : NodeInfo) (is : List NodeInfo). i ∷ is) root
      (ap (λ (l : List Numbered).
      map (λ (q : List Part). node_info (node_at l q)) (paths_below [] (k ∷ ks))) (sym same)
      ∙ chain_infos [] 0 k ks))
