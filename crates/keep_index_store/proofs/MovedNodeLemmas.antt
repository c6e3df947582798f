-- The stored nodes, where the last one takes the number of an earlier one.
--
-- Each node is read where it then is, with the numbers of its parent and of its children changed alike (`reads`). So
-- the steps stay, and the tree of steps is the old one with its last node moved (`alike`), of which MovedTrieLemmas
-- knows all. The children of the last node's parent have to be stored in the order that they then have (`IsReady`).
--
-- Theorems: `stored_moved`, `moves_last` and `infos_moved`.
use Rattle.std.proofs.Common.{◌≡◌, ℕ, zero, suc, ◌-◌, ◌<◌, List, [], ◌∷◌, length, get_or, map, refl, sym, ◌∙◌, ap}
use Rattle.std.proofs.Common.{arith, inl, inr, None}
use Rattle.std.specs.Prelude.{slice_get}
use Rattle.std.proofs.lemmas.List.{get_or-map, length-map}
use Rattle.std.proofs.lemmas.Bool.{cases_lt, cases_eq}
use Rattle.std.proofs.lemmas.Simd.{map-map}
use Rattle.keep_path.specs.NodeInfos.{later_number, no_info}
use Rattle.keep_path.specs.Path.{key}
use Rattle.keep_index_store.specs.AllNodes.{Node, no_node}
use Rattle.keep_index_store.specs.Children.{ChildList, Bare, Keyed, Listed, holds_of, named, child_ids}
use Rattle.keep_index_store.specs.Facts.{info_of}
use Rattle.keep_index_store.specs.Moved.{with_last_at, moved_number, moved_children, moved_node, moved_nodes, MovesLast}
use Rattle.keep_index_store.specs.Stored.{step_at, step_in, trie_node_in, trie_of, AreNumbered, IsStored, infos_of}
use Rattle.keep_index_store.specs.Trie.{TrieNode, nothing, IsTrie, states_of, holdings_of, children_from, children_of}
use Rattle.keep_index_store.proofs.GrowthLemmas.{IsAlike, rest_same, trie_alike, paths_alike, links_alike}
use Rattle.keep_index_store.proofs.StoredLemmas.{here, holdings_are, states_are, length_trie_of, same_trie_node}
use Rattle.keep_index_store.proofs.StoredLemmas.{step_below}
use Rattle.keep_index_store.proofs.MovedListLemmas.{later_low, later_high, moved_last, moved_other, map-last}
use Rattle.keep_index_store.proofs.MovedListLemmas.{length-last, read_moved, from}
use Rattle.keep_index_store.proofs.MovedTrieLemmas.{IsMovable, later_trie_node, moved_trie, moved_answers, trie_moved}

-- ---- the children of one node

holds_stay : (last at : ℕ) (c : ChildList) → holds_of (moved_children last at c) ≡ holds_of c
holds_stay last at Bare = refl
holds_stay last at (Keyed pairs) = refl
holds_stay last at (Listed ids) = refl

pub keys_stay : (f : ℕ → ℕ) (pairs : List (List ℕ × ℕ)) (n : ℕ)
    → (get_or {A = List ℕ × ℕ} (map (λ (e : List ℕ × ℕ). (e.0, f e.1)) pairs) n ([], 0)).0 ≡ (get_or pairs n ([], 0)).0
keys_stay f [] n = refl
keys_stay f (p ∷ pairs) zero = refl
keys_stay f (p ∷ pairs) (suc n) = keys_stay f pairs n

step_stays : (last at : ℕ) (c : ChildList) (n : ℕ)
    → step_at (named (moved_children last at c)) (holds_of (moved_children last at c)) n
    ≡ step_at (named c) (holds_of c) n
step_stays last at Bare n = refl
step_stays last at (Keyed pairs) n = ap key (keys_stay (moved_number last at) pairs n)
step_stays last at (Listed ids) n = refl

pub ids_moved : (last at : ℕ) (c : ChildList)
    → child_ids (moved_children last at c) ≡ map (moved_number last at) (child_ids c)
ids_moved last at Bare = refl
ids_moved last at (Keyed pairs) =
    map-map (λ e. e.1) (λ (e : List ℕ × ℕ). (e.0, moved_number last at e.1)) pairs
    ∙ sym (map-map (moved_number last at) (λ (e : List ℕ × ℕ). e.1) pairs)
ids_moved last at (Listed ids) = refl

pub map_through : {X Y : Type 0} (f : X → Y) (h : X → X) → ((x : X) → f (h x) ≡ f x) → (xs : List X)
    → map f (map h xs) ≡ map f xs
map_through f h same [] = refl
map_through f h same (x ∷ xs) =
    let one : f (h x) ≡ f x = same x in let more : map f (map h xs) ≡ map f xs = map_through f h same xs in cc

-- ---- the nodes

-- the last node can take that number, and its parent stores its children in the order that they then have
pub record IsReady (nodes : List Node) (at : ℕ) : Type 0 where
  pub trie : IsTrie (trie_of nodes)
  pub later : 0 < at
  pub within : at < length nodes
  pub below : (get_or nodes (length nodes - 1) no_node).parent < at
  pub bare : child_ids (get_or nodes (length nodes - 1) no_node).children ≡ []
  pub inside : (i k : ℕ) → i < length nodes → k < length (child_ids (get_or nodes i no_node).children)
      → get_or (child_ids (get_or nodes i no_node).children) k 0 < length nodes
  pub numbers : (i : ℕ) → i < length nodes → AreNumbered nodes (child_ids (get_or nodes i no_node).children)
  pub kids : (i : ℕ) → i < length nodes - 1
      → map (moved_number (length nodes - 1) at) (child_ids (get_or nodes i no_node).children)
      ≡ children_of (moved_trie (trie_node_in nodes no_node) (trie_of nodes) at) (later_number at i)

module _ (nodes : List Node) (at : ℕ) (r : IsReady nodes at) where
  top : TrieNode
  top = trie_node_in nodes no_node

  abbrev moved : List Node
  moved = with_last_at no_node nodes at

  abbrev all : List Node
  all = moved_nodes nodes at

  abbrev steps : List TrieNode
  steps = moved_trie (trie_node_in nodes no_node) (trie_of nodes) at

  count_moved : length moved ≡ length nodes
  count_moved = length-last no_node nodes at r.within

  pub count : length all ≡ length nodes
  count = length-map moved (moved_node (length nodes - 1) at) ∙ count_moved

  movable : IsMovable (trie_of nodes) at
  movable = record {
    trie = r.trie;
    later = r.later;
    within = omega (arith, r.within, length_trie_of nodes);
    below = λ u.
        let own : (get_or (trie_of nodes) (length (trie_of nodes) - 1) u).parent
        ≡ (get_or nodes (length nodes - 1) no_node).parent =
        ap (λ n. (get_or (trie_of nodes) (n - 1) u).parent) (length_trie_of nodes)
        ∙ ap (λ (t : TrieNode). t.parent) (here nodes (length nodes - 1) no_node u (omega (arith, r.within))) in
        omega (arith, own, r.below);
  }

  -- ---- each node where it then is

  number_within : (i : ℕ) → i < length nodes → moved_number (length nodes - 1) at i < length nodes
  number_within i h = elim (cases_eq i (length nodes - 1)) [
    | inl same ↦ omega (arith, moved_last (length nodes - 1) at i same, r.within)
    | inr other ↦ elim (cases_lt i at) [
      | inl below ↦ omega (arith, moved_other (length nodes - 1) at i other, later_low at i below, h)
      | inr above ↦ omega (arith, moved_other (length nodes - 1) at i other, later_high at i above, h, other)
    ]
  ]

  reads_moved : (i : ℕ) (e : Node) → i < length nodes
      → get_or moved (moved_number (length nodes - 1) at i) e ≡ get_or nodes i e
  reads_moved i e h = read_moved no_node nodes at i e r.within h

  reads : (i : ℕ) (e : Node) → i < length nodes
      → get_or all (moved_number (length nodes - 1) at i) e ≡ moved_node (length nodes - 1) at (get_or nodes i no_node)
  reads i e h =
      get_or-map (moved_node (length nodes - 1) at) moved (moved_number (length nodes - 1) at i) no_node e
      (omega (arith, number_within i h, count_moved))
      ∙ ap (moved_node (length nodes - 1) at) (reads_moved i no_node h)

  record IsOld (j : ℕ) : Type 0 where
    was : ℕ
    within : was < length nodes
    number : moved_number (length nodes - 1) at was ≡ j

  old : (j : ℕ) → j < length nodes → IsOld j
  old j h = let f = from no_node nodes at r.within j h in record { was = f.was; within = f.within; number = f.moved }

  old_later : (j was : ℕ) → 0 < j → moved_number (length nodes - 1) at was ≡ j → 0 < was
  old_later j was h is = elim (cases_lt 0 was) [
    | inl more ↦ more
    | inr none ↦
        absurd (omega (
          arith,
          none,
          h,
          is,
          moved_other (length nodes - 1) at was (λ e. absurd (omega (arith, e, none, r.later, r.within))),
          later_low at was (omega (arith, none, r.later)),
        ))
  ]

  -- ---- the steps

  parent_earlier : (i : ℕ) → 0 < i → i < length nodes → (get_or nodes i no_node).parent < i
  parent_earlier i later h =
      omega (
        arith,
        ap (λ (t : TrieNode). t.parent) (here nodes i no_node top h),
        r.trie.parents i top later (omega (arith, h, length_trie_of nodes)),
      )

  part_stays : (i : ℕ) → 0 < i → i < length nodes
      → step_in (slice_get all (later_number at (get_or nodes i no_node).parent)) (get_or nodes i no_node).number
      ≡ step_in (slice_get nodes (get_or nodes i no_node).parent) (get_or nodes i no_node).number
  part_stays i later h =
      let q : ℕ = (get_or nodes i no_node).parent in
      let n : ℕ = (get_or nodes i no_node).number in
      let up : q < i = parent_earlier i later h in
      let number : moved_number (length nodes - 1) at q ≡ later_number at q =
      moved_other (length nodes - 1) at q (λ e. absurd (omega (arith, e, up, h))) in
      let low : later_number at q < length all = omega (arith, number, number_within q (omega (arith, up, h)), count) in
      let own : get_or all (later_number at q) no_node ≡ moved_node (length nodes - 1) at (get_or nodes q no_node) =
      ap (λ k. get_or all k no_node) (sym number) ∙ reads q no_node (omega (arith, up, h)) in
      step_below all (later_number at q) no_node n low
      ∙ ap (λ (x : Node). step_at (named x.children) (holds_of x.children) n) own
      ∙ step_stays (length nodes - 1) at (get_or nodes q no_node).children n
      ∙ sym (step_below nodes q no_node n (omega (arith, up, h)))

  trie_node_moved : (i : ℕ) → 0 < i → i < length nodes
      → trie_node_in all (moved_node (length nodes - 1) at (get_or nodes i no_node))
      ≡ later_trie_node at (trie_node_in nodes (get_or nodes i no_node))
  trie_node_moved i later h =
      same_trie_node refl (part_stays i later h) refl
      (holds_stay (length nodes - 1) at (get_or nodes i no_node).children)

  steps_are : steps ≡ map (later_trie_node at) (map (trie_node_in nodes) moved)
  steps_are =
      ap (map (later_trie_node at)) (sym
      (map-last (trie_node_in nodes) no_node (trie_node_in nodes no_node) nodes at (omega (arith, r.within))))

  steps_at : (j was : ℕ) (u : TrieNode) → j < length nodes → was < length nodes
      → moved_number (length nodes - 1) at was ≡ j
      → get_or steps j u ≡ later_trie_node at (trie_node_in nodes (get_or nodes was no_node))
  steps_at j was u h within is =
      ap (λ (ts : List TrieNode). get_or ts j u) steps_are
      ∙ get_or-map (later_trie_node at) (map (trie_node_in nodes) moved) j top u
      (omega (arith, h, count_moved, length-map moved (trie_node_in nodes)))
      ∙ ap (later_trie_node at) (get_or-map (trie_node_in nodes) moved j no_node top (omega (arith, h, count_moved)))
      ∙ ap (λ (x : Node). later_trie_node at (trie_node_in nodes x))
      (ap (λ k. get_or moved k no_node) (sym is) ∙ reads_moved was no_node within)

  count_steps : length steps ≡ length nodes
  count_steps =
      ap length steps_are ∙ length-map (map (trie_node_in nodes) moved) (later_trie_node at)
      ∙ length-map moved (trie_node_in nodes) ∙ count_moved

  alike : IsAlike (trie_of all) steps
  alike = record {
    many = length_trie_of all ∙ count ∙ sym count_steps;
    rest = rest_same (trie_of all) steps (length_trie_of all ∙ count ∙ sym count_steps) (λ j u later h.
        let low : j < length nodes = omega (arith, h, length_trie_of all, count) in
        let o = old j low in
        here all j no_node u (omega (arith, low, count))
        ∙ ap (λ k. trie_node_in all (get_or all k no_node)) (sym o.number)
        ∙ ap (trie_node_in all) (reads o.was no_node o.within)
        ∙ trie_node_moved o.was (old_later j o.was later o.number) o.within
        ∙ sym (steps_at j o.was u low o.within o.number));
    states =
        states_are all ∙ map_through (λ (n : Node). n.facts.role) (moved_node (length nodes - 1) at) (λ n. refl) moved
        ∙ sym (ap states_of steps_are
        ∙ map_through (λ (t : TrieNode). t.state) (later_trie_node at) (λ t. refl) (map (trie_node_in nodes) moved)
        ∙ map-map (λ (t : TrieNode). t.state) (trie_node_in nodes) moved);
    holdings =
        holdings_are all
        ∙ map_through (λ (n : Node). holds_of n.children) (moved_node (length nodes - 1) at)
        (λ n. holds_stay (length nodes - 1) at n.children) moved
        ∙ sym (ap holdings_of steps_are
        ∙ map_through (λ (t : TrieNode). t.holds) (later_trie_node at) (λ t. refl) (map (trie_node_in nodes) moved)
        ∙ map-map (λ (t : TrieNode). t.holds) (trie_node_in nodes) moved);
  }

  pub trie_all : IsTrie (trie_of all)
  trie_all = trie_alike alike (trie_moved (trie_node_in nodes no_node) (trie_of nodes) at movable)

  children_all : (i : ℕ) → children_of (trie_of all) i ≡ children_of steps i
  children_all i = ap (children_from 1 i) (links_alike alike)

  pub moves_last : MovesLast (trie_of nodes) (trie_of all) at
  moves_last = record {
    trie = r.trie;
    trie' = trie_all;
    within = omega (arith, r.within, length_trie_of nodes);
    paths = paths_alike alike ∙ (moved_answers (trie_node_in nodes no_node) (trie_of nodes) at movable).paths;
    states =
        states_are all ∙ map_through (λ (n : Node). n.facts.role) (moved_node (length nodes - 1) at) (λ n. refl) moved
        ∙ map-last (λ (n : Node). n.facts.role) no_node None nodes at (omega (arith, r.within))
        ∙ ap (λ ss. with_last_at None ss at) (sym (states_are nodes));
    holdings =
        holdings_are all
        ∙ map_through (λ (n : Node). holds_of n.children) (moved_node (length nodes - 1) at)
        (λ n. holds_stay (length nodes - 1) at n.children) moved
        ∙ map-last (λ (n : Node). holds_of n.children) no_node nothing nodes at (omega (arith, r.within))
        ∙ ap (λ hs. with_last_at nothing hs at) (sym (holdings_are nodes));
  }

  pub infos_moved : infos_of all ≡ with_last_at no_info (infos_of nodes) at
  infos_moved = map_through (λ (n : Node). info_of n.facts) (moved_node (length nodes - 1) at) (λ n. refl) moved
      ∙ map-last (λ (n : Node). info_of n.facts) no_node no_info nodes at (omega (arith, r.within))

  -- ---- the children

  ids_at : (j was : ℕ) (e : Node) → was < length nodes → moved_number (length nodes - 1) at was ≡ j
      → child_ids (get_or all j e).children
      ≡ map (moved_number (length nodes - 1) at) (child_ids (get_or nodes was no_node).children)
  ids_at j was e within is =
      ap (λ k. child_ids (get_or all k e).children) (sym is)
      ∙ ap (λ (x : Node). child_ids x.children) (reads was e within)
      ∙ ids_moved (length nodes - 1) at (get_or nodes was no_node).children

  kids_at : (j was : ℕ) → was < length nodes → moved_number (length nodes - 1) at was ≡ j
      → map (moved_number (length nodes - 1) at) (child_ids (get_or nodes was no_node).children) ≡ children_of steps j
  kids_at j was within is = elim (cases_eq was (length nodes - 1)) [
    | inl same ↦
        ap (λ k. map (moved_number (length nodes - 1) at) (child_ids (get_or nodes k no_node).children)) same
        ∙ ap (map (moved_number (length nodes - 1) at)) r.bare
        ∙ sym (ap (children_of steps) (sym is ∙ moved_last (length nodes - 1) at was same)
        ∙ (moved_answers (trie_node_in nodes no_node) (trie_of nodes) at movable).none)
    | inr other ↦ r.kids was (omega (arith, within, other))
        ∙ ap (children_of steps) (sym (moved_other (length nodes - 1) at was other) ∙ is)
  ]

  pub stored_moved : IsStored all
  stored_moved = record {
    trie = trie_all;
    kids = λ j e h. let o =
        old j (omega (arith, h, count)) in
        ids_at j o.was e o.within o.number ∙ kids_at j o.was o.within o.number ∙ sym (children_all j);
    numbers = λ j e h k u low.
        let o = old j (omega (arith, h, count)) in
        let ids : List ℕ = child_ids (get_or nodes o.was no_node).children in
        let same : child_ids (get_or all j e).children ≡ map (moved_number (length nodes - 1) at) ids =
        ids_at j o.was e o.within o.number in
        let few : k < length ids =
        omega (arith, low, ap length same, length-map ids (moved_number (length nodes - 1) at)) in
        let c : ℕ = get_or ids k 0 in
        ap (λ ks. (get_or all (get_or ks k 0) u).number) same
        ∙ ap (λ n. (get_or all n u).number) (get_or-map (moved_number (length nodes - 1) at) ids k 0 0 few)
        ∙ ap (λ (x : Node). x.number) (reads c u (r.inside o.was k o.within few))
        ∙ r.numbers o.was o.within k no_node few;
  }
