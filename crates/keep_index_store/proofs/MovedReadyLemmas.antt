-- The stored nodes, where the last one comes before its later siblings, and so is ready to take an earlier number.
--
-- Among the entries of the parent the last one is put after those of the nodes before `at`, and the siblings have their
-- new numbers there. So each step stays (`alike`), and the children of the parent are in the order that they have once
-- the last node has the number `at` (`kids_above`).
--
-- Theorem: `ready`.
use Rattle.std.proofs.Common.{◌≡◌, ℕ, ◌+◌, ◌-◌, ◌<◌, ◌≤◌, cond, List, [], ◌∷◌, ◌++◌, length, get_or, set, drop, map}
use Rattle.std.proofs.Common.{refl, sym, ◌∙◌, ap, subst, arith, length-append, inl, inr, None}
use Rattle.std.specs.Prelude.{slice_get}
use Rattle.std.specs.List.{insert}
use Rattle.std.proofs.lemmas.List.{get_or_append_left, get_or_default, get_or-append_right, get_or_push, get_or-map}
use Rattle.std.proofs.lemmas.List.{get_or-set_same, get_or-set_other, length-map, length-set, take_at, drop_at}
use Rattle.std.proofs.lemmas.Bool.{cases_lt, cases_eq, eq-eqb, ne_eqb}
use Rattle.std.proofs.Math.Seq.{map-set_same}
use Rattle.keep_path.specs.NodeInfos.{later_number}
use Rattle.keep_path.specs.Path.{key}
use Rattle.keep_index_store.specs.AllNodes.{Node, no_node}
use Rattle.keep_index_store.specs.Children.{ChildList, Keyed, holds_of, named, child_ids}
use Rattle.keep_index_store.specs.Facts.{info_of}
use Rattle.keep_index_store.specs.Moved.{CanMove, EndsLate, IsLast, MovesLast, with_last_at, moved_number}
use Rattle.keep_index_store.specs.Moved.{reordered, reordered_node}
use Rattle.keep_index_store.specs.Stored.{step_at, step_in, trie_node_in, trie_of, infos_of}
use Rattle.keep_index_store.specs.Trie.{TrieNode, nothing, by_key, by_index, IsTrie, children_from, children_of}
use Rattle.keep_index_store.proofs.GrowthLemmas.{IsAlike, rest_same, trie_alike, paths_alike, links_alike}
use Rattle.keep_index_store.proofs.StoredLemmas.{IsPlaced, IsStoredChild, count_named, here, holdings_are, ids_named}
use Rattle.keep_index_store.proofs.StoredLemmas.{length_trie_of, node_placed, same_trie_node, states_are, step_below}
use Rattle.keep_index_store.proofs.StoredLemmas.{stored_child}
use Rattle.keep_index_store.proofs.AscendingLemmas.{Ascends, ascend_of}
use Rattle.keep_index_store.proofs.MovedListLemmas.{from, last_inserted, length-last, map-last, moved_before}
use Rattle.keep_index_store.proofs.MovedListLemmas.{moved_late, read_moved}
use Rattle.keep_index_store.proofs.MovedTrieLemmas.{IsMovable, IsAbove, moved_trie, moved_answers}
use Rattle.keep_index_store.proofs.MovedNodeLemmas.{IsReady, map_through}

-- the place after the numbers before `at`
split_place : (low high : List ℕ) (last at n : ℕ) → ((k : ℕ) → k < length low → get_or low k 0 < at)
    → ((k : ℕ) → k < length high → at ≤ get_or high k 0)
    → n < length ((low ++ high) ++ last ∷ []) → ((k : ℕ) → k < n → get_or ((low ++ high) ++ last ∷ []) k 0 < at)
    → ((k : ℕ) → n ≤ k → k + 1 < length ((low ++ high) ++ last ∷ []) → at ≤ get_or ((low ++ high) ++ last ∷ []) k 0)
    → length low ≡ n
split_place low high last at n lows highs within before after =
    let ids : List ℕ = (low ++ high) ++ last ∷ [] in
    let both : length (low ++ high) ≡ length low + length high = length-append low high in
    let all : length ids ≡ length low + length high + 1 =
    omega (arith, both, length-append (low ++ high) (last ∷ [])) in
    elim (cases_lt n (length low)) [
      | inl less ↦
          let own : get_or ids n 0 ≡ get_or low n 0 =
          get_or_append_left (low ++ high) (last ∷ []) 0 n (omega (arith, less, both))
          ∙ get_or_append_left low high 0 n less in
          absurd (omega (arith, own, lows n less, after n (omega arith) (omega (arith, less, all))))
      | inr more ↦ elim (cases_lt (length low) n) [
        | inr same ↦ omega (arith, more, same)
        | inl past ↦
            let some : 0 < length high = omega (arith, past, within, all) in
            let own : get_or ids (length low) 0 ≡ get_or high 0 0 =
            get_or_append_left (low ++ high) (last ∷ []) 0 (length low) (omega (arith, some, both))
            ∙ get_or-append_right low high (length low) (length low) 0 refl (omega arith)
            ∙ ap (λ k. get_or high k 0) (let e : length low - length low ≡ 0 = omega arith in e) in
            absurd (omega (arith, own, highs 0 some, before (length low) past))
      ]
    ]

-- numbers that ascend once they are renumbered
ends_late : (last at : ℕ) (ids : List ℕ) → at ≤ last → Ascends (map (moved_number last at) ids) → EndsLate at ids
ends_late last at ids order ascend k h late =
    let f = moved_number last at in
    let end : ℕ = length ids - 1 in
    let many : length (map f ids) ≡ length ids = length-map ids f in
    elim (cases_lt k end) [
      | inr same ↦
          let is : k ≡ end = omega (arith, same, h) in
          omega (arith, late, ap (λ j. get_or ids j 0) is)
      | inl less ↦ elim (cases_lt (get_or ids end 0) at) [
        | inr more ↦ more
        | inl early ↦
            let one : get_or (map f ids) k 0 ≡ f (get_or ids k 0) = get_or-map f ids k 0 0 h in
            let two : get_or (map f ids) end 0 ≡ f (get_or ids end 0) = get_or-map f ids end 0 0 (omega (arith, h)) in
            let stays : f (get_or ids end 0) ≡ get_or ids end 0 = moved_before last at (get_or ids end 0) early order in
            let up : at ≤ f (get_or ids k 0) = moved_late last at (get_or ids k 0) late in
            absurd (omega (arith, ascend k end 0 less (omega (arith, h, many)), one, two, stays, up, early))
      ]
    ]

insert_between : (low high : List ℕ) (x n : ℕ) → length low ≡ n → insert (low ++ high) n x ≡ low ++ x ∷ high
insert_between low high x n is =
    ap (λ ys. ys ++ x ∷ drop n (low ++ high)) (take_at low high n is) ∙ ap (λ ys. low ++ x ∷ ys) (drop_at low high n is)

module _ (nodes : List Node) (at n : ℕ) (r : IsLast nodes at n) where
  abbrev last : ℕ
  last = length nodes - 1

  abbrev own : Node
  own = get_or nodes (length nodes - 1) no_node

  abbrev above : ℕ
  above = (get_or nodes (length nodes - 1) no_node).parent

  abbrev kids : ChildList
  kids = (get_or nodes above no_node).children

  abbrev entries : List (List ℕ × ℕ)
  entries = with_last_at ([], 0) (named kids) n

  abbrev changed : Node
  changed = record (get_or nodes above no_node) { children = Keyed entries }

  abbrev written : List Node
  written = set nodes above changed

  abbrev all : List Node
  all = reordered nodes n

  later : 0 < at
  later = omega (arith, r.below)

  pub above_within : above < length nodes
  above_within = omega (arith, r.below, r.within)

  pub many_kids : length (child_ids kids) ≡ length (named kids)
  many_kids = count_named kids r.keyed

  pub count : length all ≡ length nodes
  count = length-map written (reordered_node own n) ∙ length-set nodes above changed

  -- ---- each node as it is then

  node_at_is : (i : ℕ) (e : Node) → i < length nodes → get_or all i e ≡ reordered_node own n (get_or written i no_node)
  node_at_is i e h =
      get_or-map (reordered_node own n) written i no_node e (omega (arith, h, length-set nodes above changed))

  stays : {X : Type 0} (f : Node → X) → ((x : Node) → f (reordered_node own n x) ≡ f x)
      → f changed ≡ f (get_or nodes above no_node) → (i : ℕ) (e : Node) → i < length nodes
      → f (get_or all i e) ≡ f (get_or nodes i no_node)
  stays f same at_above i e h = ap f (node_at_is i e h) ∙ same (get_or written i no_node) ∙ (elim (cases_eq i above) [
    | inl is ↦ ap (λ k. f (get_or written k no_node)) is
        ∙ ap f (get_or-set_same nodes above changed no_node above_within) ∙ at_above
        ∙ ap (λ k. f (get_or nodes k no_node)) (sym is)
    | inr far ↦ ap f (get_or-set_other nodes above i changed no_node far)
  ])

  parent_is : (i : ℕ) (e : Node) → i < length nodes → (get_or all i e).parent ≡ (get_or nodes i no_node).parent
  parent_is = stays (λ (x : Node). x.parent) (λ x. refl) refl

  children_other : (i : ℕ) (e : Node) → i < length nodes → (i ≡ above → ⊥)
      → (get_or all i e).children ≡ (get_or nodes i no_node).children
  children_other i e h far =
      ap (λ (x : Node). x.children) (node_at_is i e h)
      ∙ ap (λ (x : Node). x.children) (get_or-set_other nodes above i changed no_node far)

  children_own : (i : ℕ) (e : Node) → i ≡ above → (get_or all i e).children ≡ Keyed entries
  children_own i e is =
      ap (λ k. (get_or all k e).children) is ∙ ap (λ (x : Node). x.children) (node_at_is above e above_within)
      ∙ ap (λ (x : Node). x.children) (get_or-set_same nodes above changed no_node above_within)

  number_is : (i : ℕ) (e : Node) → i < length nodes
      → (get_or all i e).number ≡ (reordered_node own n (get_or nodes i no_node)).number
  number_is i e h = ap (λ (x : Node). x.number) (node_at_is i e h) ∙ (elim (cases_eq i above) [
    | inl is ↦ ap (λ k. (reordered_node own n (get_or written k no_node)).number) is
        ∙ ap (λ (x : Node). (reordered_node own n x).number) (get_or-set_same nodes above changed no_node above_within)
        ∙ ap (λ k. (reordered_node own n (get_or nodes k no_node)).number) (sym is)
    | inr far ↦ ap (λ (x : Node). (reordered_node own n x).number) (get_or-set_other nodes above i changed no_node far)
  ])

  number_far : (i : ℕ) (e : Node) → i < length nodes → ((get_or nodes i no_node).parent ≡ above → ⊥)
      → (get_or all i e).number ≡ (get_or nodes i no_node).number
  number_far i e h far =
      number_is i e h
      ∙ ap (λ b. cond b (moved_number own.number n (get_or nodes i no_node).number) (get_or nodes i no_node).number)
      (ne_eqb (get_or nodes i no_node).parent above far)

  number_near : (i : ℕ) (e : Node) → i < length nodes → (get_or nodes i no_node).parent ≡ above
      → (get_or all i e).number ≡ moved_number own.number n (get_or nodes i no_node).number
  number_near i e h near =
      number_is i e h
      ∙ ap (λ b. cond b (moved_number own.number n (get_or nodes i no_node).number) (get_or nodes i no_node).number)
      (eq-eqb (get_or nodes i no_node).parent above near)

  -- ---- the children of the parent

  top : TrieNode
  top = trie_node_in nodes no_node

  movable : IsMovable (trie_of nodes) at
  movable = record {
    trie = r.stored.trie;
    later = later;
    within = omega (arith, r.within, length_trie_of nodes);
    below = λ u.
        let up : (get_or (trie_of nodes) (length (trie_of nodes) - 1) u).parent ≡ above =
        ap (λ k. (get_or (trie_of nodes) (k - 1) u).parent) (length_trie_of nodes)
        ∙ ap (λ (t : TrieNode). t.parent) (here nodes last no_node u (omega (arith, r.within))) in
        omega (arith, up, r.below);
  }

  split : IsAbove top (trie_of nodes) at above
  split = (moved_answers top (trie_of nodes) at movable).above above top
      (ap (λ k. (get_or (trie_of nodes) (k - 1) top).parent) (length_trie_of nodes)
      ∙ ap (λ (t : TrieNode). t.parent) (here nodes last no_node top (omega (arith, r.within))))

  ids_are : child_ids kids ≡ (split.low ++ split.high) ++ last ∷ []
  ids_are =
      r.stored.kids above no_node above_within ∙ split.before
      ∙ ap (λ k. (split.low ++ split.high) ++ (k - 1) ∷ []) (length_trie_of nodes)

  ids_then : child_ids (Keyed entries) ≡ with_last_at 0 (child_ids kids) n
  ids_then =
      map-last (λ (e : List ℕ × ℕ). e.1) ([], 0) 0 (named kids) n (omega (arith, r.place, many_kids))
      ∙ ap (λ ids. with_last_at 0 ids n) (sym (ids_named kids r.keyed))

  -- the last of them has the last number there
  pub own_number : own.number ≡ length (child_ids kids) - 1
  own_number =
      let few : length (child_ids kids) - 1 < length (child_ids kids) = omega (arith, r.place) in
      let at_end : get_or (child_ids kids) (length (child_ids kids) - 1) 0 ≡ last =
      ap (λ ids. get_or ids (length (child_ids kids) - 1) 0) ids_are
      ∙ get_or_push (split.low ++ split.high) last 0 (length (child_ids kids) - 1)
      (omega (arith, ap length ids_are, length-append (split.low ++ split.high) (last ∷ []))) in
      ap (λ k. (get_or nodes k no_node).number) (sym at_end)
      ∙ r.stored.numbers above no_node above_within (length (child_ids kids) - 1) no_node few

  -- ---- the steps

  step_then : (k : ℕ) → k < length (named kids)
      → step_at entries by_key (moved_number own.number n k) ≡ step_at (named kids) by_key k
  step_then k h =
      ap (λ m. key (get_or entries (moved_number m n k) ([], 0)).0) (own_number ∙ ap (λ c. c - 1) many_kids)
      ∙ ap (λ (e : List ℕ × ℕ). key e.0)
      (read_moved ([], 0) (named kids) n k ([], 0) (omega (arith, r.place, many_kids)) h)

  part_stays : (i : ℕ) → 0 < i → i < length nodes
      → step_in (slice_get all (get_or all i no_node).parent) (get_or all i no_node).number
      ≡ step_in (slice_get nodes (get_or nodes i no_node).parent) (get_or nodes i no_node).number
  part_stays i later h =
      let p : ℕ = (get_or nodes i no_node).parent in
      let k : ℕ = (get_or nodes i no_node).number in
      let placed : IsPlaced nodes i no_node = node_placed nodes r.stored i no_node later h in
      let p_within : p < length nodes = omega (arith, placed.earlier, h) in
      ap (λ q. step_in (slice_get all q) (get_or all i no_node).number) (parent_is i no_node h)
      ∙ step_below all p no_node (get_or all i no_node).number (omega (arith, p_within, count))
      ∙ (elim (cases_eq p above) [
        | inl near ↦
            ap (λ c. step_at (named c) (holds_of c) (get_or all i no_node).number) (children_own p no_node near)
            ∙ ap (step_at entries by_key) (number_near i no_node h near)
            ∙ step_then k (omega (
              arith,
              many_kids,
              ap (λ q. length (child_ids (get_or nodes q no_node).children)) near,
              placed.low,
            ))
            ∙ ap (λ b. step_at (named kids) b k) (sym r.keyed)
            ∙ ap (λ q. step_at (named (get_or nodes q no_node).children) (holds_of (get_or nodes q no_node).children) k)
            (sym near)
        | inr far ↦
            ap (λ c. step_at (named c) (holds_of c) (get_or all i no_node).number)
            (children_other p no_node p_within far)
            ∙ ap (step_at (named (get_or nodes p no_node).children) (holds_of (get_or nodes p no_node).children))
            (number_far i no_node h far)
      ])
      ∙ sym (step_below nodes p no_node k p_within)

  holds_is : (i : ℕ) (e : Node) → i < length nodes
      → holds_of (get_or all i e).children ≡ holds_of (get_or nodes i no_node).children
  holds_is = stays (λ (x : Node). holds_of x.children) (λ x. refl) (sym r.keyed)

  alike : IsAlike (trie_of all) (trie_of nodes)
  alike = record {
    many = length_trie_of all ∙ count ∙ sym (length_trie_of nodes);
    rest = rest_same (trie_of all) (trie_of nodes) (length_trie_of all ∙ count ∙ sym (length_trie_of nodes))
        (λ i u later h.
        let low : i < length nodes = omega (arith, h, length_trie_of all, count) in
        here all i no_node u (omega (arith, low, count))
        ∙ same_trie_node (parent_is i no_node low) (part_stays i later low)
        (stays (λ (x : Node). x.facts.role) (λ x. refl) refl i no_node low) (holds_is i no_node low)
        ∙ sym (here nodes i no_node u low));
    states = states_are all ∙ map_through (λ (x : Node). x.facts.role) (reordered_node own n) (λ x. refl) written
        ∙ map-set_same (λ (x : Node). x.facts.role) nodes above changed no_node refl ∙ sym (states_are nodes);
    holdings =
        holdings_are all ∙ map_through (λ (x : Node). holds_of x.children) (reordered_node own n) (λ x. refl) written
        ∙ map-set_same (λ (x : Node). holds_of x.children) nodes above changed no_node (sym r.keyed)
        ∙ sym (holdings_are nodes);
  }

  -- ---- ready

  pub trie_all : IsTrie (trie_of all)
  trie_all = trie_alike alike r.stored.trie

  children_same : (i : ℕ) → children_of (trie_of all) i ≡ children_of (trie_of nodes) i
  children_same i = ap (children_from 1 i) (links_alike alike)

  movable_all : IsMovable (trie_of all) at
  movable_all = record {
    trie = trie_all;
    later = later;
    within = omega (arith, r.within, length_trie_of all, count);
    below = λ u.
        let up : (get_or (trie_of all) (length (trie_of all) - 1) u).parent ≡ above =
        ap (λ k. (get_or (trie_of all) (k - 1) u).parent) (length_trie_of all ∙ count)
        ∙ ap (λ (t : TrieNode). t.parent) (here all last no_node u (omega (arith, r.within, count)))
        ∙ parent_is last no_node (omega (arith, r.within)) in
        omega (arith, up, r.below);
  }

  parent_last : (u : TrieNode) → (get_or (trie_of all) (length (trie_of all) - 1) u).parent ≡ above
  parent_last u =
      ap (λ k. (get_or (trie_of all) (k - 1) u).parent) (length_trie_of all ∙ count)
      ∙ ap (λ (t : TrieNode). t.parent) (here all last no_node u (omega (arith, r.within, count)))
      ∙ parent_is last no_node (omega (arith, r.within))

  counted : length (trie_of all) - 1 ≡ length all - 1
  counted = ap (λ k. k - 1) (length_trie_of all)

  -- the numbers before and after `at` among the children of the parent are those of the tree as it was
  kids_of : (i : ℕ) → i < length nodes → (i ≡ above → ⊥)
      → child_ids (get_or all i no_node).children ≡ children_of (trie_of all) i
  kids_of i h far = ap child_ids (children_other i no_node h far) ∙ r.stored.kids i no_node h ∙ sym (children_same i)

  kids_far : (u : TrieNode) (i : ℕ) → i < length nodes → (i ≡ above → ⊥)
      → map (moved_number (length all - 1) at) (child_ids (get_or all i no_node).children)
      ≡ children_of (moved_trie u (trie_of all) at) (later_number at i)
  kids_far u i h far =
      ap (map (moved_number (length all - 1) at)) (kids_of i h far)
      ∙ ap (λ k. map (moved_number k at) (children_of (trie_of all) i)) (sym counted)
      ∙ sym ((moved_answers u (trie_of all) at movable_all).other i u (λ e. far (sym e ∙ parent_last u)))

  kids_near : (u : TrieNode)
      → map (moved_number (length all - 1) at) (child_ids (get_or all above no_node).children)
      ≡ children_of (moved_trie u (trie_of all) at) (later_number at above)
  kids_near u =
      let s = (moved_answers u (trie_of all) at movable_all).above above u (parent_last u) in
      let ids : child_ids kids ≡ (s.low ++ s.high) ++ last ∷ [] =
      r.stored.kids above no_node above_within ∙ sym (children_same above) ∙ s.before
      ∙ ap (λ k. (s.low ++ s.high) ++ (k - 1) ∷ []) (length_trie_of all ∙ count) in
      let place : length s.low ≡ n = split_place s.low s.high last at n s.low_all s.high_all
      (omega (arith, r.place, ap length ids))
      (λ k h. subst (λ (xs : List ℕ). get_or xs k 0 < at) ids (r.before k h))
      (λ k h g. subst (λ (xs : List ℕ). at ≤ get_or xs k 0) ids (r.after k h (omega (arith, g, ap length ids)))) in
      let own_ids : child_ids (get_or all above no_node).children ≡ s.low ++ last ∷ s.high =
      ap child_ids (children_own above no_node refl) ∙ ids_then ∙ ap (λ xs. with_last_at 0 xs n) ids
      ∙ last_inserted 0 (s.low ++ s.high) last n ∙ insert_between s.low s.high last n place in
      ap (map (moved_number (length all - 1) at))
      (own_ids ∙ ap (λ k. s.low ++ (k - 1) ∷ s.high) (sym (length_trie_of all ∙ count)))
      ∙ ap (λ k. map (moved_number k at) (s.low ++ (length (trie_of all) - 1) ∷ s.high)) (sym counted) ∙ sym s.after

  -- each child, and its number
  record IsKid (i k : ℕ) : Type 0 where
    id : ℕ
    is : get_or (child_ids (get_or all i no_node).children) k 0 ≡ id
    within : id < length nodes
    number : (e : Node) → (get_or all id e).number ≡ k

  kid_far : (i k : ℕ) → i < length nodes → (i ≡ above → ⊥) → k < length (child_ids (get_or all i no_node).children)
      → IsKid i k
  kid_far i k h far low =
      let same : child_ids (get_or all i no_node).children ≡ child_ids (get_or nodes i no_node).children =
      ap child_ids (children_other i no_node h far) in
      let id : ℕ = get_or (child_ids (get_or nodes i no_node).children) k 0 in
      let child : IsStoredChild nodes i k id no_node =
      stored_child nodes r.stored i k no_node h (omega (arith, low, ap length same)) in
      record {
        id = id;
        is = ap (λ ids. get_or ids k 0) same;
        within = child.nested;
        number = λ e. number_far id e child.nested (λ near. far (sym child.parent ∙ near)) ∙ child.number;
      }

  kid_near : (k : ℕ) → k < length (child_ids (get_or all above no_node).children) → IsKid above k
  kid_near k low =
      let ids : List ℕ = child_ids kids in
      let same : child_ids (get_or all above no_node).children ≡ with_last_at 0 ids n =
      ap child_ids (children_own above no_node refl) ∙ ids_then in
      let f = from 0 ids n r.place k (omega (arith, low, ap length same, length-last 0 ids n r.place)) in
      let id : ℕ = get_or ids f.was 0 in
      let child : IsStoredChild nodes above f.was id no_node =
      stored_child nodes r.stored above f.was no_node above_within f.within in
      record {
        id = id;
        is = ap (λ xs. get_or xs k 0) same ∙ f.read 0;
        within = child.nested;
        number =
            λ e. number_near id e child.nested child.parent ∙ ap (moved_number own.number n) child.number
            ∙ ap (λ m. moved_number m n f.was) own_number ∙ f.moved;
      }

  kid : (i k : ℕ) → i < length nodes → k < length (child_ids (get_or all i no_node).children) → IsKid i k
  kid i k h low = elim (cases_eq i above) [
    | inl near ↦
        subst (λ (j : ℕ). IsKid j k) (sym near)
        (kid_near k (omega (arith, low, ap (λ j. length (child_ids (get_or all j no_node).children)) near)))
    | inr far ↦ kid_far i k h far low
  ]

  pub ready : IsReady all at
  ready = record {
    trie = trie_all;
    later = later;
    within = omega (arith, r.within, count);
    below = omega (
      arith,
      ap (λ k. (get_or all (k - 1) no_node).parent) count
          ∙ parent_is last no_node (omega (arith, r.within)),
      r.below,
    );
    bare = ap (λ k. child_ids (get_or all (k - 1) no_node).children) count
        ∙ ap child_ids (children_other last no_node (omega (arith, r.within))
        (λ e. absurd (omega (arith, e, r.below, r.within)))) ∙ r.bare;
    inside = λ i k h low. let c = kid i k (omega (arith, h, count)) low in omega (arith, c.is, c.within, count);
    numbers =
        λ i h k e low. let c =
        kid i k (omega (arith, h, count)) low in ap (λ j. (get_or all j e).number) c.is ∙ c.number e;
    kids = λ i h. let low : i < length nodes = omega (arith, h, count) in elim (cases_eq i above) [
      | inl near ↦
          ap (λ j. map (moved_number (length all - 1) at) (child_ids (get_or all j no_node).children)) near
          ∙ kids_near (trie_node_in all no_node)
          ∙ ap (λ j. children_of (moved_trie (trie_node_in all no_node) (trie_of all) at) (later_number at j))
          (sym near)
      | inr far ↦ kids_far (trie_node_in all no_node) i low far
    ];
  }

  -- ---- the children can be renumbered

  kid_low : (i k : ℕ) → i < length nodes → k < length (child_ids (get_or all i no_node).children)
      → get_or (child_ids (get_or all i no_node).children) k 0 ≤ last
  kid_low i k h low = let c = kid i k h low in omega (arith, c.is, c.within)

  -- below a node that lists its children, that is, not below the parent
  module _ (i : ℕ) (h : i < length nodes) (indexed : holds_of (get_or all i no_node).children ≡ by_index) where
    far : i ≡ above → ⊥
    far is = let e : by_index ≡ by_key = sym indexed ∙ ap holds_of (children_own i no_node is) in cc

    ids_stay : child_ids (get_or all i no_node).children ≡ child_ids (get_or nodes i no_node).children
    ids_stay = ap child_ids (children_other i no_node h far)

    child_there : (k : ℕ) → k < length (child_ids (get_or all i no_node).children)
        → IsStoredChild nodes i k (get_or (child_ids (get_or all i no_node).children) k 0) no_node
    child_there k low =
        subst (λ (ids : List ℕ). IsStoredChild nodes i k (get_or ids k 0) no_node) (sym ids_stay)
        (stored_child nodes r.stored i k no_node h (omega (arith, low, ap length ids_stay)))

    item_low : (k : ℕ) → k < length (child_ids (get_or all i no_node).children)
        → get_or (child_ids (get_or all i no_node).children) k 0 < last
    item_low k low =
        let child = child_there k low in
        elim (cases_eq (get_or (child_ids (get_or all i no_node).children) k 0) last) [
          | inl is ↦ absurd (far (sym child.parent ∙ ap (λ j. (get_or nodes j no_node).parent) is))
          | inr other ↦ omega (arith, child.nested, other)
        ]

    items_apart : (k : ℕ) → k + 1 < length (child_ids (get_or all i no_node).children)
        → get_or (child_ids (get_or all i no_node).children) k 0 + 1 ≡ at
        → get_or (child_ids (get_or all i no_node).children) (k + 1) 0 ≡ at → ⊥
    items_apart k low one next =
        let first = child_there k (omega (arith, low)) in
        let second = child_there (k + 1) low in
        let up : (get_or nodes (at - 1) no_node).parent ≡ i =
        ap (λ j. (get_or nodes j no_node).parent) (omega (arith, one)) ∙ first.parent in
        let up' : (get_or nodes at no_node).parent ≡ i =
        ap (λ j. (get_or nodes j no_node).parent) (sym next) ∙ second.parent in
        let keys : holds_of (get_or nodes i no_node).children ≡ by_key =
        ap (λ j. holds_of (get_or nodes j no_node).children) (sym up') ∙ r.apart (up ∙ sym up') in
        let e : by_index ≡ by_key = sym indexed ∙ ap holds_of (children_other i no_node h far) ∙ keys in
        cc

  -- they ascend once they are renumbered
  ids_end : (i : ℕ) → i < length nodes → EndsLate at (child_ids (get_or all i no_node).children)
  ids_end i h =
      let ids : List ℕ = child_ids (get_or all i no_node).children in
      let then : List ℕ = map (moved_number (length all - 1) at) ids in
      let new : List TrieNode = moved_trie (trie_node_in all no_node) (trie_of all) at in
      elim (cases_lt i (length all - 1)) [
        | inl before ↦
            ends_late (length all - 1) at ids (omega (arith, r.within, count))
            (subst Ascends {x = children_of new (later_number at i)} {y = then} (sym (ready.kids i before))
            (ascend_of new (later_number at i)))
        | inr end ↦
            let is : i ≡ length all - 1 = omega (arith, end, h, count) in
            let none : ids ≡ [] = ap (λ j. child_ids (get_or all j no_node).children) is ∙ ready.bare in
            λ k low late. absurd (omega (arith, low, ap length none))
      ]

  pub can_move : (i : ℕ) → i < length nodes → CanMove last at (get_or all i no_node).children
  can_move i h = record {
    place = omega (arith, r.within);
    ends = ids_end i h;
    within =
        λ k d low.
        omega (arith, kid_low i k h low, get_or_default (child_ids (get_or all i no_node).children) k d 0 low);
    items = λ indexed k d low.
        omega (arith, item_low i h indexed k low, get_or_default (child_ids (get_or all i no_node).children) k d 0 low);
    apart = items_apart i h;
  }

  -- ---- what it is to the nodes as they were

  pub moves_from : (new : List TrieNode) → MovesLast (trie_of all) new at → MovesLast (trie_of nodes) new at
  moves_from new m = record {
    trie = r.stored.trie;
    trie' = m.trie';
    within = omega (arith, r.within, length_trie_of nodes);
    paths = m.paths ∙ ap (λ ps. with_last_at [] ps at) (paths_alike alike);
    states = m.states ∙ ap (λ ss. with_last_at None ss at) alike.states;
    holdings = m.holdings ∙ ap (λ hs. with_last_at nothing hs at) alike.holdings;
  }

  pub infos_stay : infos_of all ≡ infos_of nodes
  infos_stay =
      map_through (λ (x : Node). info_of x.facts) (reordered_node own n) (λ x. refl) written
      ∙ map-set_same (λ (x : Node). info_of x.facts) nodes above changed no_node refl
