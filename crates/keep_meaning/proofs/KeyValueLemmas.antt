-- The keys of a line after its first, alone, with anything in the line's value: the nodes of the value are below that
-- of the last key.
--
-- What the keys before the last say, and the value's own mention, give the nodes of the keys alone (`bare_said`). What
-- is in the value is said below the last one's path, so another run of that path is in the place of one.
--
-- Theorem: `keys_hold_value`.
use Rattle.std.proofs.Common.{◌≡◌, ℕ, suc, ◌+◌, ◌<◌, ◌≤◌, false, List, [], ◌∷◌, ◌++◌, length, map, refl, sym, ap}
use Rattle.std.proofs.Common.{subst, ◌∙◌, arith, append-nil, append_assoc, length-append, Option, None, Some}
use Rattle.std.proofs.lemmas.List.{length-map}
use Rattle.keep_types.specs.declared.node.Origin.TheVariants as origin
use Rattle.keep_path.specs.KeysAlone.{keys_alone, paths_below}
use Rattle.keep_path.specs.NodeInfos.{NodeInfos}
use Rattle.keep_path.specs.NodesBelow.{Totals, with_value}
use Rattle.keep_path.specs.Path.{Part, key, same_path, strip}
use Rattle.keep_path.proofs.Shared.{strip_is}
use Rattle.keep_meaning.specs.Counts.{Count, Numbered, count_with_mention, numbered_mentions}
use Rattle.keep_meaning.specs.Fact.{Fact}
use Rattle.keep_meaning.specs.KeysMore.{keys_with_value}
use Rattle.keep_meaning.specs.Marks.{Mention, below, dotted, value as mentions_value}
use Rattle.keep_meaning.specs.Meaning.{keyed_mentions, valued_mentions}
use Rattle.keep_meaning.specs.Nodes.{fact_kind, node_number}
use Rattle.keep_meaning.specs.OtherValues.{IsApart, IsSaidBefore}
use Rattle.keep_meaning.proofs.CountLemmas.{numbered_mentions-append}
use Rattle.keep_meaning.proofs.DotMentionLemmas.{count_dots, dot_mentions, parts_later, passed_first}
use Rattle.keep_meaning.proofs.KeyChainLemmas.{below_below, below_root, keys_are_alone, lengths_differ}
use Rattle.keep_meaning.proofs.LineNodeLemmas.{infos_of}
use Rattle.keep_meaning.proofs.LineNumberLemmas.{AllOf, all_of}
use Rattle.keep_meaning.proofs.RunLaws.{IsPlace, Run, first_number, nodes_given}
use Rattle.keep_meaning.proofs.RunLemmas.{IsDeeper, all_numbered, count_alone, said_by_run}

-- ---- the keys before the last

-- keys, and one after them
record EndsIn (keys : List (List ℕ)) : Type 0 where
  before : List (List ℕ)
  last : List ℕ
  whole : keys ≡ before ++ last ∷ []

ends_in : (k : List ℕ) (ks : List (List ℕ)) → EndsIn (k ∷ ks)
ends_in k [] = record { before = []; last = k; whole = refl }
ends_in k (l ∷ ks) =
    let rest : EndsIn (l ∷ ks) = ends_in l ks in
    record { before = k ∷ rest.before; last = rest.last; whole = ap (λ (l : List (List ℕ)). k ∷ l) rest.whole }

paths_last : (at : List Part) (ks : List (List ℕ)) (last : List ℕ)
    → paths_below at (ks ++ last ∷ []) ≡ paths_below at ks ++ ((at ++ map key ks) ++ key last ∷ []) ∷ []
paths_last at [] last =
    ap (λ (p : List Part). (p ++ key last ∷ []) ∷ []) (sym (append-nil at))
paths_last at (k ∷ ks) last =
    let next : List Part = at ++ key k ∷ [] in
    ap (λ (l : List (List Part)). next ∷ l)
    (paths_last next ks last
    ∙ ap (λ (p : List Part). paths_below next ks ++ (p ++ key last ∷ []) ∷ [])
    (append_assoc at (key k ∷ []) (map key ks)))

-- how many they are
paths_many : (at : List Part) (ks : List (List ℕ)) → length (paths_below at ks) ≡ length ks
paths_many at [] = refl
paths_many at (k ∷ ks) = ap suc (paths_many (at ++ key k ∷ []) ks)

-- a path of so many steps at most
abbrev IsWithin : ℕ → List Part → Type 0
IsWithin n q = length q ≤ n

paths_short : (at : List Part) (ks : List (List ℕ)) → AllOf (IsWithin (length at + length ks)) (paths_below at ks)
paths_short at [] = tt
paths_short at (k ∷ ks) =
    let next : List Part = at ++ key k ∷ [] in
    let size : length next ≡ length at + 1 = length-append at (key k ∷ []) in (
      omega (arith, size),
      all_of (IsWithin (length next + length ks)) (IsWithin (length at + suc (length ks)))
          (λ q few. omega (arith, few, size)) (paths_below next ks) (paths_short next ks),
    )

dots_short : (at : List Part) (ks : List (List ℕ))
    → AllOf (λ (m : Mention). IsWithin (length at + length ks) m.path) (dot_mentions at ks)
dots_short at [] = tt
dots_short at (k ∷ ks) =
    let next : List Part = at ++ key k ∷ [] in
    let size : length next ≡ length at + 1 = length-append at (key k ∷ []) in (
      omega (arith, size),
      all_of (λ (m : Mention). IsWithin (length next + length ks) m.path)
          (λ (m : Mention). IsWithin (length at + suc (length ks)) m.path) (λ m few. omega (arith, few, size))
          (dot_mentions next ks) (dots_short next ks),
    )

-- a longer path is not one of theirs, nor above one
off_short : (path q : List Part) → length q < length path → strip path q ≡ None
off_short path q few = by (strip path q) refl
  where
    by : (o : Option (List Part)) → strip path q ≡ o → o ≡ None
    by None e = refl
    by (Some more) e =
        absurd (omega (
          arith,
          few,
          ap (λ (p : List Part). length p) (strip_is path q more e),
          length-append path more,
        ))

-- they say no more before than this
dots_before : (c : Count) (at : List Part) (ks : List (List ℕ)) (d : Count) → c.values ≤ d.values
    → c.keys + length ks ≤ d.keys → AllOf (IsSaidBefore d) (numbered_mentions c (dot_mentions at ks))
dots_before c at [] d v k = tt
dots_before c at (x ∷ ks) d v k = (
  record { values = v; keys = omega (arith, k) },
  dots_before (count_with_mention c (record { path = at ++ key x ∷ []; kind = dotted })) (at ++ key x ∷ []) ks d
      (omega (arith, v)) (omega (arith, k)),
)

-- ---- the last one

of_value : IsPlace origin.Value
of_value = record { moves = λ f v. refl; number = λ i v. refl }

module _ (f : Fact) (inner : List Mention) (deep : AllOf IsDeeper inner) (before : List (List ℕ)) (last : List ℕ) where
  abbrev path : List Part
  path = map key before ++ key last ∷ []

  abbrev c₀ : Count
  c₀ = count_alone dotted

  -- what comes before the value
  abbrev c : Count
  c = parts_later (length before) c₀

  abbrev xs : List Numbered
  xs = numbered_mentions c₀ (dot_mentions [] before)

  abbrev run_of : (ms : List Mention) → AllOf IsDeeper ms → Run path c origin.Value
  run_of ms h = record {
    said = mentions_value f;
    marked = refl;
    nested = ms;
    deep = h;
    kind = fact_kind f;
    stated = refl;
  }

  size : length path ≡ suc (length before)
  size = omega (arith, length-append (map key before) (key last ∷ []), length-map before key)

  off_xs : AllOf (IsApart path) xs
  off_xs =
      all_numbered (λ (m : Mention). strip path m.path ≡ None) c₀ (dot_mentions [] before)
      (all_of (λ (m : Mention). IsWithin (0 + length before) m.path) (λ (m : Mention). strip path m.path ≡ None)
      (λ m few. off_short path m.path (omega (arith, few, size))) (dot_mentions [] before) (dots_short [] before))

  low : AllOf (IsSaidBefore c) xs
  low = dots_before c₀ [] before c (omega arith) (omega arith)

  -- with this in the value
  abbrev said : (ms : List Mention) → List Numbered
  said ms = numbered_mentions c₀ (keyed_mentions (before ++ last ∷ []) (valued_mentions (mentions_value f) ms))

  said_is : (ms : List Mention) → said ms ≡ xs ++ (said_by_run c path (mentions_value f) ms ++ [])
  said_is ms =
      let valued : List Mention = valued_mentions (mentions_value f) ms in
      let own : Mention = record { path = path; kind = mentions_value f } in
      ap (numbered_mentions c₀)
      (sym (below_root (keyed_mentions (before ++ last ∷ []) valued)) ∙ passed_first [] before last [] valued)
      ∙ numbered_mentions-append c₀ (dot_mentions [] before)
      (map (below (map key before)) (keyed_mentions (last ∷ []) valued))
      ∙ ap (λ (d : Count). xs ++ numbered_mentions d (map (below (map key before)) (keyed_mentions (last ∷ []) valued)))
      (count_dots c₀ [] before)
      ∙ ap (λ (l : List Mention). xs ++ numbered_mentions c (own ∷ l)) (below_below (map key before) (key last ∷ []) ms)
      ∙ ap (λ (l : List Numbered). xs ++ l) (sym (append-nil (said_by_run c path (mentions_value f) ms)))

  bare : List Numbered
  bare = said []

  -- the nodes of the keys are those with nothing in the value
  bare_nodes : infos_of (said []) ≡ keys_alone (before ++ last ∷ []) (fact_kind f)
  bare_nodes = by before
    where
      by : (ks : List (List ℕ)) → infos_of (numbered_mentions c₀
          (keyed_mentions (ks ++ last ∷ []) (valued_mentions (mentions_value f) [])))
          ≡ keys_alone (ks ++ last ∷ []) (fact_kind f)
      by [] = keys_are_alone f last []
      by (k ∷ ks) = keys_are_alone f k (ks ++ last ∷ [])

  abbrev front : List (List Part)
  front = [] ∷ paths_below [] before

  others : AllOf (λ (q : List Part). same_path path q ≡ false) front
  others =
      all_of (IsWithin (0 + length before)) (λ (q : List Part). same_path path q ≡ false)
      (λ q few. lengths_differ path q (omega (arith, few, size))) front (omega arith, paths_short [] before)

  number : node_number (infos_of (said [])).paths path ≡ Some (suc (length before))
  number =
      ap (λ (t : NodeInfos). node_number t.paths path) bare_nodes
      ∙ ap (λ (ps : List (List Part)). node_number ([] ∷ ps) path) (paths_last [] before last)
      ∙ first_number path front [] others
      ∙ ap (λ (n : ℕ). Some (suc n)) (paths_many [] before)

  abbrev none_more : Totals
  none_more = record { values = 0; keys = 0 }

  nodes_with : infos_of (said inner)
      ≡ with_value (keys_alone (before ++ last ∷ []) (fact_kind f)) (suc (length before)) 0 none_more none_more
      (infos_of (numbered_mentions (count_alone (mentions_value f)) inner)) (fact_kind f)
  nodes_with =
      ap infos_of (said_is inner)
      ∙ nodes_given path c origin.Value of_value (run_of [] tt) (run_of inner deep) 0 0 0 0 xs [] none_more none_more
      low tt off_xs tt refl refl (suc (length before))
      (ap (λ (ns : List Numbered). node_number (infos_of ns).paths path) (sym (said_is [])) ∙ number)
      ∙ ap (λ (t : NodeInfos).
      with_value t (suc (length before)) 0 none_more none_more
      (infos_of (numbered_mentions (count_alone (mentions_value f)) inner)) (fact_kind f))
      (ap infos_of (sym (said_is [])) ∙ bare_nodes)

-- ---- all nodes

pub keys_hold_value : (f : Fact) (inner : List Mention) → AllOf IsDeeper inner → (k : List ℕ) (ks : List (List ℕ))
    → infos_of (numbered_mentions (count_alone dotted)
    (keyed_mentions (k ∷ ks) (valued_mentions (mentions_value f) inner)))
    ≡ keys_with_value (k ∷ ks) (fact_kind f) (infos_of (numbered_mentions (count_alone (mentions_value f)) inner))
keys_hold_value f inner deep k ks =
    let keys : EndsIn (k ∷ ks) = ends_in k ks in
    let inside : NodeInfos = infos_of (numbered_mentions (count_alone (mentions_value f)) inner) in
    let many : suc (length keys.before) ≡ length (keys.before ++ keys.last ∷ []) =
    omega (arith, length-append keys.before (keys.last ∷ [])) in
    subst (λ (l : List (List ℕ)).
    infos_of (numbered_mentions (count_alone dotted) (keyed_mentions l (valued_mentions (mentions_value f) inner)))
    ≡ keys_with_value l (fact_kind f) inside) (sym keys.whole)
    (nodes_with f inner deep keys.before keys.last
    ∙ ap (λ (n : ℕ).
    with_value (keys_alone (keys.before ++ keys.last ∷ []) (fact_kind f)) n 0 (record { values = 0; keys = 0 })
    (record { values = 0; keys = 0 }) inside (fact_kind f)) many)
