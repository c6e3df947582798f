-- Joining the facts from one mention after another gives the facts that the definitions have of all nodes.
--
-- The code adds the facts of one mention after another; the definition computes them at each path from all mentions
-- there. The proof is an induction over the mentions (`added_further`). For one more mention there are two cases
-- (`met_or_unmet`): its path has a node, and its facts are joined to those there (`added_at_existing`), or it has none,
-- and a node is added at the end (`added_new`). In both the facts at all other paths are unchanged (`elsewhere`). A
-- count of marks in a machine word does not overflow, as fewer than 2^64 marks are assumed, and a value's path has no
-- node yet (`ValuesAreNew`).
--
-- Theorems: `all_infos`: the facts of all nodes; `values_new_in`: those of a document; `values_new_of`: all nodes, of
-- any mentions.
use Rattle.std.proofs.Common.{◌≡◌, ◌≢◌, ℕ, ◌<◌, ◌≤◌, Bool, true, false, cond, ◌||◌, ◌⊎◌, List, [], ◌∷◌, ◌++◌, length}
use Rattle.std.proofs.Common.{get_or, set, map, refl, sym, ap, subst, ◌∙◌, arith, inl, inr, Some, None}
use Rattle.std.specs.Prelude.{◌^◌, Contains, AllPairs}
use Rattle.std.specs.List.{list_any, count_by, position_or_len}
use Rattle.std.proofs.lemmas.List.{map-append, append-nil, append_assoc, length-map, get_or-map, length-set}
use Rattle.std.proofs.lemmas.List.{get_or-set_same, get_or-set_other, same_lists}
use Rattle.std.proofs.lemmas.List.Elements.{filter-append, Contains-get_or}
use Rattle.std.proofs.lemmas.List.Folds.{list_any-append, list_any_at, list_any_none}
use Rattle.std.proofs.lemmas.List.Sums.{sum_by-cons, sum_by-append, passes_at_first, fails_before_first}
use Rattle.std.proofs.lemmas.List.Quantifiers.{all_pairs_push}
use Rattle.std.proofs.lemmas.Bool.{cases_lt, cases_eq, cases_Bool, lt-ltb, le-ltb}
use Rattle.keep_syntax.specs.Tree.{Document}
use Rattle.keep_types.specs.declared.node.NodeInfo.{NodeInfo}
use Rattle.keep_path.specs.Path.{Part, same_path}
use Rattle.keep_meaning.specs.Marks.{marks}
use Rattle.keep_meaning.specs.Meaning.{mentions_in}
use Rattle.keep_meaning.specs.Counts.{Numbered, is_value, is_mark, one_if, numbered_in}
use Rattle.keep_meaning.specs.Nodes.{paths_with, node_paths, node_number, numbered_at, is_numbered_at, mention_of}
use Rattle.keep_meaning.specs.Nodes.{mentioned_node, Node, node_at, nodes_of, node_info, node_path, infos_in}
use Rattle.keep_path.specs.NodeInfos.{NodeInfos, no_info, root_infos}
use Rattle.keep_index_store.specs.Facts.{joined_info}
use Rattle.keep_rules.specs.MentionInfos.{with_info, with_info_at, with_mentions, mention_info, paths_after}
use Rattle.keep_rules.specs.MentionInfos.{ValuesAreNew}
use Rattle.keep_path.proofs.Shared.{path_decides}
use Rattle.keep_meaning.proofs.Shared.{mentions-numbered_in, node_at-elsewhere, one_mark, paths-nodes}
use Rattle.keep_rules.proofs.RoleStateLemmas.{one_place}
use Rattle.keep_rules.proofs.MentionInfoLemmas.{paths_after-append}
use Rattle.keep_rules.proofs.NodeInfoLemmas.{node_joined}

-- ---- paths that are met

same_self : (p : List Part) → same_path p p ≡ true
same_self p = (path_decides p p).1 refl

pub met_own : (paths : List (List Part)) (p : List Part) → list_any (same_path p) (paths_with paths p) ≡ true
met_own paths p =
    (elim (list_any (same_path p) paths) as
    (λ b. list_any (same_path p) paths ≡ b → list_any (same_path p) (cond b paths (paths ++ p ∷ [])) ≡ true) [
      | true ↦ λ is. is
      | false ↦ λ is. list_any-append (same_path p) paths (p ∷ []) ∙ ap (λ b. b || list_any (same_path p) (p ∷ [])) is
          ∙ ap (λ b. b || false) (same_self p)
    ]) refl

pub met_with : (paths : List (List Part)) (p q : List Part) → list_any (same_path p) paths ≡ true
    → list_any (same_path p) (paths_with paths q) ≡ true
met_with paths p q met =
    elim (list_any (same_path q) paths) as (λ b. list_any (same_path p) (cond b paths (paths ++ q ∷ [])) ≡ true) [
      | true ↦ met
      | false ↦ list_any-append (same_path p) paths (q ∷ []) ∙ ap (λ b. b || list_any (same_path p) (q ∷ [])) met
    ]

met_after : (paths : List (List Part)) (ns : List Numbered) (p : List Part) → list_any (same_path p) paths ≡ true
    → list_any (same_path p) (paths_after paths ns) ≡ true
met_after paths [] p met = met
met_after paths (n ∷ ns) p met = met_after (paths_with paths n.mention.path) ns p (met_with paths p n.mention.path met)

-- no mention has a path that is not met
silent : (paths : List (List Part)) (ns : List Numbered) (p : List Part)
    → list_any (same_path p) (paths_after paths ns) ≡ false → numbered_at p ns ≡ []
silent paths [] p unmet = refl
silent paths (n ∷ ns) p unmet =
    let more : numbered_at p ns ≡ [] = silent (paths_with paths n.mention.path) ns p unmet in
    (elim (same_path n.mention.path p) as
    (λ b. same_path n.mention.path p ≡ b → cond b (n ∷ numbered_at p ns) (numbered_at p ns) ≡ []) [
      | true ↦ λ is.
          let own : list_any (same_path p) (paths_with paths n.mention.path) ≡ true =
          subst (λ (q : List Part). list_any (same_path p) (paths_with paths q) ≡ true)
          (sym ((path_decides n.mention.path p).0 is)) (met_own paths p) in
          let met : list_any (same_path p) (paths_after (paths_with paths n.mention.path) ns) ≡ true =
          met_after (paths_with paths n.mention.path) ns p own in
          cc
      | false ↦ λ is. more
    ]) refl

-- no path is met twice
distinct_with : (paths : List (List Part)) (p : List Part) → AllPairs (λ p q. p ≢ q) paths
    → AllPairs (λ p q. p ≢ q) (paths_with paths p)
distinct_with paths p distinct =
    (elim (list_any (same_path p) paths) as
    (λ b. list_any (same_path p) paths ≡ b → AllPairs (λ p q. p ≢ q) (cond b paths (paths ++ p ∷ []))) [
      | true ↦ λ is. distinct
      | false ↦ λ is. all_pairs_push (λ p q. p ≢ q) paths p distinct (λ k d h same.
          let met : list_any (same_path p) paths ≡ true =
          list_any_at (same_path p) paths k d h ((path_decides p (get_or paths k d)).1 (sym same)) in
          cc)
    ]) refl

distinct_after : (paths : List (List Part)) (ns : List Numbered) → AllPairs (λ p q. p ≢ q) paths
    → AllPairs (λ p q. p ≢ q) (paths_after paths ns)
distinct_after paths [] distinct = distinct
distinct_after paths (n ∷ ns) distinct =
    distinct_after (paths_with paths n.mention.path) ns (distinct_with paths n.mention.path distinct)

pub node_paths-distinct : (ns : List Numbered) → AllPairs (λ p q. p ≢ q) (node_paths (map mention_of ns))
node_paths-distinct ns = distinct_after ([] ∷ []) ns (λ i j d h g. absurd (omega arith))

-- ---- the number of a node

pub record IsMet (paths : List (List Part)) (p : List Part) : Type 0 where
  pub number : ℕ
  pub nested : number < length paths
  pub here : get_or paths number [] ≡ p
  pub met : list_any (same_path p) paths ≡ true
  pub is : node_number paths p ≡ Some number

pub record IsUnmet (paths : List (List Part)) (p : List Part) : Type 0 where
  pub unmet : list_any (same_path p) paths ≡ false
  pub is : node_number paths p ≡ None

pub met_or_unmet : (paths : List (List Part)) (p : List Part) → IsMet paths p ⊎ IsUnmet paths p
met_or_unmet paths p =
    let k : ℕ = position_or_len (same_path p) paths in
    elim (cases_lt k (length paths)) [
      | inl below ↦
          let passes : same_path p (get_or paths k []) ≡ true = passes_at_first (same_path p) paths [] below in
          inl (record {
            number = k;
            nested = below;
            here = sym ((path_decides p (get_or paths k [])).0 passes);
            met = list_any_at (same_path p) paths k [] below passes;
            is = ap (λ b. cond b (Some k) None) (lt-ltb k (length paths) below);
          })
      | inr above ↦
          inr (record {
            unmet = list_any_none (same_path p) paths
                (λ i d h. fails_before_first (same_path p) paths i d (omega arith));
            is = ap (λ b. cond b (Some k) None) (le-ltb k (length paths) above);
          })
    ]

-- ---- a mention at its path, and elsewhere

numbered_at-here : (ns : List Numbered) (n : Numbered)
    → numbered_at n.mention.path (ns ++ n ∷ []) ≡ numbered_at n.mention.path ns ++ n ∷ []
numbered_at-here ns n =
    filter-append (is_numbered_at n.mention.path) ns (n ∷ [])
    ∙ ap (λ b. numbered_at n.mention.path ns ++ cond b (n ∷ []) []) (same_self n.mention.path)

not_same_path : (p q : List Part) → (p ≡ q → ⊥) → same_path p q ≡ false
not_same_path p q differ =
    elim (cases_Bool (same_path p q)) [ inl same ↦ absurd (differ ((path_decides p q).0 same)) | inr is ↦ is ]

-- ---- all nodes

-- the facts by the definitions
abbrev pub infos_of_mentions : List Numbered → NodeInfos
infos_of_mentions ns = record { paths = node_paths (map mention_of ns); infos = map node_info (nodes_of ns) }

same_infos : (a b : NodeInfos) → a.paths ≡ b.paths → a.infos ≡ b.infos → a ≡ b
same_infos a b p i =
    let fields : record { paths = a.paths; infos = a.infos } ≡ record { paths = b.paths; infos = b.infos } = cc in
    fields

fewer_at : (p : List Part) (ns : List Numbered) → (node_at ns p).marks ≤ count_by (λ m. is_mark m.mention.kind) ns
fewer_at p [] = omega arith
fewer_at p (n ∷ ns) =
    let marked : Numbered → ℕ = λ m. cond (is_mark m.mention.kind) 1 0 in
    let more : (node_at ns p).marks ≤ count_by (λ m. is_mark m.mention.kind) ns = fewer_at p ns in
    elim (is_numbered_at p n) as (λ b.
    count_by (λ m. is_mark m.mention.kind) (cond b (n ∷ numbered_at p ns) (numbered_at p ns))
    ≤ count_by (λ m. is_mark m.mention.kind) (n ∷ ns)) [
      | true ↦ omega (arith, sum_by-cons marked n (numbered_at p ns), sum_by-cons marked n ns)
      | false ↦ omega (arith, sum_by-cons marked n ns)
    ]

-- what a change at one node does to the list of all
module _ (old new : List Part → NodeInfo) (paths : List (List Part)) where
  infos_preserved : ((k : ℕ) → k < length paths → new (get_or paths k []) ≡ old (get_or paths k []))
      → map old paths ≡ map new paths
  infos_preserved preserved =
      same_lists (map old paths) (map new paths) (length-map paths old ∙ sym (length-map paths new)) (λ k d h.
      let nested : k < length paths = omega (arith, length-map paths old) in
      get_or-map old paths k [] d nested ∙ sym (preserved k nested) ∙ sym (get_or-map new paths k [] d nested))

  pub infos_set : (i : ℕ) (x : NodeInfo) → i < length paths → x ≡ new (get_or paths i [])
      → ((k : ℕ) → k < length paths → (k ≡ i → ⊥) → new (get_or paths k []) ≡ old (get_or paths k []))
      → set (map old paths) i x ≡ map new paths
  infos_set i x within here preserved =
      same_lists (set (map old paths) i x) (map new paths)
      (length-set (map old paths) i x ∙ length-map paths old ∙ sym (length-map paths new)) (λ k d h.
      let nested : k < length paths = omega (arith, length-map paths old, length-set (map old paths) i x) in
      elim (cases_eq k i) [
        | inl same ↦
            ap (λ j. get_or (set (map old paths) i x) j d) same
            ∙ get_or-set_same (map old paths) i x d (omega (arith, length-map paths old))
            ∙ here
            ∙ sym (get_or-map new paths i [] d within)
            ∙ ap (λ j. get_or (map new paths) j d) (sym same)
        | inr other ↦ get_or-set_other (map old paths) i k x d other ∙ get_or-map old paths k [] d nested
            ∙ sym (preserved k nested other) ∙ sym (get_or-map new paths k [] d nested)
      ])

pub infos_of : (f : Node → NodeInfo) (g : List Part → Node) (paths : List (List Part))
    → map f (map g paths) ≡ map (λ q. f (g q)) paths
infos_of f g [] = refl
infos_of f g (p ∷ paths) = ap (λ xs. f (g p) ∷ xs) (infos_of f g paths)

abbrev info_at : List Numbered → List Part → NodeInfo
info_at ns q = node_info (node_at ns q)

infos : (ns : List Numbered) → (infos_of_mentions ns).infos ≡ map (info_at ns) (node_paths (map mention_of ns))
infos ns = infos_of node_info (node_at ns) (node_paths (map mention_of ns))

module _ (ns : List Numbered) (n : Numbered) where
  elsewhere : (q : List Part) → (n.mention.path ≡ q → ⊥) → info_at (ns ++ n ∷ []) q ≡ info_at ns q
  elsewhere q differ = ap node_info (node_at-elsewhere q ns n (not_same_path n.mention.path q differ))

  info_new : numbered_at n.mention.path ns ≡ [] → info_at (ns ++ n ∷ []) n.mention.path ≡ mention_info n
  info_new none =
      ap (λ ms. node_info (mentioned_node n.mention.path ms)) (numbered_at-here ns n ∙ ap (λ ms. ms ++ n ∷ []) none)

  info_joined : is_value n.mention.kind ≡ false → (node_at (ns ++ n ∷ []) n.mention.path).marks < 2 ^ 64
      → info_at (ns ++ n ∷ []) n.mention.path ≡ joined_info (info_at ns n.mention.path) (mention_info n)
  info_joined given few =
      let here = numbered_at-here ns n in
      ap (λ ms. node_info (mentioned_node n.mention.path ms)) here
      ∙ node_joined n.mention.path (numbered_at n.mention.path ns) n given
      (subst (λ (ms : List Numbered). (mentioned_node n.mention.path ms).marks < 2 ^ 64) here few)

  paths_more : node_paths (map mention_of (ns ++ n ∷ [])) ≡ paths_with (node_paths (map mention_of ns)) n.mention.path
  paths_more = paths_after-append ([] ∷ []) ns (n ∷ [])

  added_new : IsUnmet (node_paths (map mention_of ns)) n.mention.path
      → with_info (infos_of_mentions ns) n.mention.path (mention_info n) ≡ infos_of_mentions (ns ++ n ∷ [])
  added_new u =
      let t : NodeInfos = infos_of_mentions ns in
      let p : List Part = n.mention.path in
      let mentioned : NodeInfo = mention_info n in
      let longer : t.paths ++ p ∷ [] ≡ node_paths (map mention_of (ns ++ n ∷ [])) =
      ap (λ b. cond b t.paths (t.paths ++ p ∷ [])) (sym u.unmet) ∙ sym paths_more in
      let old : List Part → NodeInfo = info_at ns in
      let new : List Part → NodeInfo = info_at (ns ++ n ∷ []) in
      let preserved : map old t.paths ≡ map new t.paths =
      infos_preserved old new t.paths (λ k h. elsewhere (get_or t.paths k []) (λ e.
      let met : list_any (same_path p) t.paths ≡ true =
      list_any_at (same_path p) t.paths k [] h ((path_decides p (get_or t.paths k [])).1 e) in
      let unmet = u.unmet in cc)) in
      ap (λ o. with_info_at t o p mentioned) u.is
      ∙ same_infos (with_info_at t None p mentioned) (infos_of_mentions (ns ++ n ∷ [])) longer (
      ap (λ xs. xs ++ mentioned ∷ []) (infos ns ∙ preserved)
      ∙ ap (λ x. map new t.paths ++ x ∷ []) (sym (info_new (silent ([] ∷ []) ns p u.unmet)))
      ∙ sym (map-append new t.paths (p ∷ []))
      ∙ ap (map new) longer
      ∙ sym (infos (ns ++ n ∷ [])))

  added_at_existing : IsMet (node_paths (map mention_of ns)) n.mention.path → is_value n.mention.kind ≡ false
      → (node_at (ns ++ n ∷ []) n.mention.path).marks < 2 ^ 64
      → with_info (infos_of_mentions ns) n.mention.path (mention_info n) ≡ infos_of_mentions (ns ++ n ∷ [])
  added_at_existing m given few =
      let t : NodeInfos = infos_of_mentions ns in
      let p : List Part = n.mention.path in
      let mentioned : NodeInfo = mention_info n in
      let i : ℕ = m.number in
      let same : t.paths ≡ node_paths (map mention_of (ns ++ n ∷ [])) =
      ap (λ b. cond b t.paths (t.paths ++ p ∷ [])) (sym m.met) ∙ sym paths_more in
      let old : List Part → NodeInfo = info_at ns in
      let new : List Part → NodeInfo = info_at (ns ++ n ∷ []) in
      let here : joined_info (get_or (map old t.paths) i no_info) mentioned ≡ new (get_or t.paths i []) =
      ap (λ x. joined_info x mentioned) (get_or-map old t.paths i [] no_info m.nested ∙ ap old m.here)
      ∙ sym (info_joined given few) ∙ ap new (sym m.here) in
      ap (λ o. with_info_at t o p mentioned) m.is
      ∙ same_infos (with_info_at t (Some i) p mentioned) (infos_of_mentions (ns ++ n ∷ [])) same (
      ap (λ xs. set xs i (joined_info (get_or xs i no_info) mentioned)) (infos ns)
      ∙ infos_set old new t.paths i (joined_info (get_or (map old t.paths) i no_info) mentioned) m.nested here
      (λ k h other.
      elsewhere (get_or t.paths k [])
      (λ e. other (one_place t.paths (node_paths-distinct ns) k i h m.nested (sym e ∙ sym m.here))))
      ∙ ap (map new) same
      ∙ sym (infos (ns ++ n ∷ [])))

  -- one mention more
  pub added_more : (is_value n.mention.kind ≡ true → Contains (node_paths (map mention_of ns)) n.mention.path → ⊥)
      → count_by (λ m. is_mark m.mention.kind) (ns ++ n ∷ []) < 2 ^ 64
      → with_info (infos_of_mentions ns) n.mention.path (mention_info n) ≡ infos_of_mentions (ns ++ n ∷ [])
  added_more new few =
      elim (met_or_unmet (node_paths (map mention_of ns)) n.mention.path) [
        | inl m ↦
            let there : Contains (node_paths (map mention_of ns)) n.mention.path =
            subst (Contains (node_paths (map mention_of ns))) m.here
            (Contains-get_or (node_paths (map mention_of ns)) m.number [] m.nested) in
            added_at_existing m
            (elim (cases_Bool (is_value n.mention.kind)) [ inl gives ↦ absurd (new gives there) | inr given ↦ given ])
            (omega (arith, fewer_at n.mention.path (ns ++ n ∷ [])))
        | inr u ↦ added_new u
      ]

-- further mentions
pub added_further : (ns more : List Numbered) → count_by (λ m. is_mark m.mention.kind) (ns ++ more) < 2 ^ 64
    → ValuesAreNew (node_paths (map mention_of ns)) more
    → with_mentions (infos_of_mentions ns) more ≡ infos_of_mentions (ns ++ more)
added_further ns [] few new = ap infos_of_mentions (sym (append-nil ns))
added_further ns (n ∷ more) few new =
    let marked : Numbered → ℕ = λ m. cond (is_mark m.mention.kind) 1 0 in
    let all : (ns ++ n ∷ []) ++ more ≡ ns ++ n ∷ more = append_assoc ns (n ∷ []) more in
    ap (λ t. with_mentions t more)
    (added_more ns n new.0 (omega (
      arith,
      sum_by-append marked (ns ++ n ∷ []) more,
      ap (λ ms. count_by (λ m. is_mark m.mention.kind) ms) all,
    )))
    ∙ added_further (ns ++ n ∷ []) more
    (omega (arith, ap (λ ms. count_by (λ m. is_mark m.mention.kind) ms) all))
    (subst (λ (paths : List (List Part)). ValuesAreNew paths more) (sym (paths_more ns n)) new.1)
    ∙ ap infos_of_mentions all

-- all mentions
pub all_infos : (ns : List Numbered) → count_by (λ m. is_mark m.mention.kind) ns < 2 ^ 64 → ValuesAreNew ([] ∷ []) ns
    → with_mentions root_infos ns ≡ record {
      paths = node_paths (map mention_of ns);
      infos = map node_info (nodes_of ns);
    }
all_infos ns few new = added_further [] ns few new

-- ---- of a document

one_if-cond : (b : Bool) → one_if b ≡ cond b 1 0
one_if-cond true = refl
one_if-cond false = refl

-- as many mentions name a node as there are marks
pub count-marks : (ns : List Numbered) → count_by (λ m. is_mark m.mention.kind) ns ≡ length (marks (map mention_of ns))
count-marks [] = refl
count-marks (n ∷ ns) =
    omega (
      arith,
      sum_by-cons (λ (m : Numbered). cond (is_mark m.mention.kind) 1 0) n ns,
      count-marks ns,
      one_mark n.mention.kind n.mention.path (marks (map mention_of ns)),
      one_if-cond (is_mark n.mention.kind),
    )

pub values_new_in : (s : Document) → length (marks (mentions_in s)) < 2 ^ 64 → ValuesAreNew ([] ∷ []) (numbered_in s)
    → with_mentions root_infos (numbered_in s) ≡ record { paths = node_paths (mentions_in s); infos = infos_in s }
values_new_in s few new =
    let mentioned : map mention_of (numbered_in s) ≡ mentions_in s = mentions-numbered_in s in
    all_infos (numbered_in s) (omega (arith, count-marks (numbered_in s), ap (λ ms. length (marks ms)) mentioned)) new
    ∙ ap (λ ms. record { paths = node_paths ms; infos = infos_in s }) mentioned

-- ---- of any mentions

pub values_new_of : (ns : List Numbered) → length (marks (map mention_of ns)) < 2 ^ 64 → ValuesAreNew ([] ∷ []) ns
    → with_mentions root_infos ns ≡ record { paths = map node_path (nodes_of ns); infos = map node_info (nodes_of ns) }
values_new_of ns few new =
    all_infos ns (omega (arith, count-marks ns)) new
    ∙ ap (λ ps. let t : NodeInfos = record { paths = ps; infos = map node_info (nodes_of ns) } in t)
    (sym (paths-nodes ns (node_paths (map mention_of ns))))
