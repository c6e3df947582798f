-- Each stored node where it then is, where one that has no children and is a child by key goes.
--
-- The numbers of its parent and of its children are as they are then (`reads`). Among the children of the parent of the
-- one that goes, the key and the number of each later sibling both come one place before (`children_own`,
-- `number_near`).
--
-- Theorems: `children_own`: the children of the parent then; `number_near`: the number of a sibling then; `leaves`:
-- what changes in no node is as before, without the node that goes.
use Rattle.std.proofs.Common.{◌≡◌, ℕ, ◌+◌, ◌<◌, cond, List, length, get_or, set, map, refl, sym, ◌∙◌, ap}
use Rattle.std.proofs.Common.{arith, inl, inr}
use Rattle.std.specs.List.{remove}
use Rattle.std.proofs.lemmas.List.{get_or-map, get_or-set_same, get_or-set_other, length-map, length-set}
use Rattle.std.proofs.lemmas.Bool.{cases_lt, cases_eq, eq-eqb, ne_eqb}
use Rattle.std.proofs.lemmas.Simd.{map-map}
use Rattle.std.proofs.Math.Seq.{map-set_same}
use Rattle.keep_path.specs.NodeInfos.{earlier_number}
use Rattle.keep_path.specs.Path.{key}
use Rattle.keep_index_store.specs.AllNodes.{Node, no_node}
use Rattle.keep_index_store.specs.Children.{ChildList, Bare, Keyed, Listed, holds_of, named, child_ids}
use Rattle.keep_index_store.specs.Removed.{IsLeaf, earlier_children, earlier_node, earlier_sibling, removed_nodes}
use Rattle.keep_index_store.specs.Stored.{step_at}
use Rattle.keep_index_store.proofs.StoredLemmas.{IsPlaced, count_named, node_placed}
use Rattle.keep_index_store.proofs.MovedNodeLemmas.{keys_stay, map_through}
use Rattle.keep_index_store.proofs.RemovedListLemmas.{has_earlier, length-removed, map-removed, read_earlier}

-- ---- the children of one node

pub holds_stay : (at : ℕ) (c : ChildList) → holds_of (earlier_children at c) ≡ holds_of c
holds_stay at Bare = refl
holds_stay at (Keyed pairs) = refl
holds_stay at (Listed ids) = refl

pub step_stays : (at : ℕ) (c : ChildList) (n : ℕ)
    → step_at (named (earlier_children at c)) (holds_of (earlier_children at c)) n ≡ step_at (named c) (holds_of c) n
step_stays at Bare n = refl
step_stays at (Keyed pairs) n = ap key (keys_stay (earlier_number at) pairs n)
step_stays at (Listed ids) n = refl

pub ids_earlier : (at : ℕ) (c : ChildList) → child_ids (earlier_children at c) ≡ map (earlier_number at) (child_ids c)
ids_earlier at Bare = refl
ids_earlier at (Keyed pairs) =
    map-map (λ e. e.1) (λ (e : List ℕ × ℕ). (e.0, earlier_number at e.1)) pairs
    ∙ sym (map-map (earlier_number at) (λ (e : List ℕ × ℕ). e.1) pairs)
ids_earlier at (Listed ids) = refl

-- ---- the nodes

module _ (nodes : List Node) (at : ℕ) (r : IsLeaf nodes at) where
  abbrev pub gone : Node
  gone = get_or nodes at no_node

  abbrev pub above : ℕ
  above = (get_or nodes at no_node).parent

  abbrev pub kids : ChildList
  kids = (get_or nodes above no_node).children

  abbrev pub entries : List (List ℕ × ℕ)
  entries = remove (named kids) gone.number

  abbrev pub changed : Node
  changed = record (get_or nodes above no_node) { children = Keyed entries }

  abbrev written : List Node
  written = set nodes above changed

  abbrev without : List Node
  without = map (earlier_sibling gone) written

  abbrev pub all : List Node
  all = removed_nodes nodes at

  pub placed : IsPlaced nodes at no_node
  placed = node_placed nodes r.stored at no_node r.later r.within

  pub above_within : above < length nodes
  above_within = omega (arith, placed.earlier, r.within)

  pub many_kids : length (child_ids kids) ≡ length (named kids)
  many_kids = count_named kids r.keyed

  pub gone_low : gone.number < length (named kids)
  gone_low = omega (arith, placed.low, many_kids)

  count_without : length without ≡ length nodes
  count_without = length-map written (earlier_sibling gone) ∙ length-set nodes above changed

  count_kept : length (remove without at) + 1 ≡ length nodes
  count_kept = omega (arith, length-removed without at (omega (arith, r.within, count_without)), count_without)

  pub count : length all + 1 ≡ length nodes
  count = omega (arith, length-map (remove without at) (earlier_node at), count_kept)

  -- ---- each other node where it then is

  pub earlier_within : (i : ℕ) → i < length nodes → (i ≡ at → ⊥) → earlier_number at i < length all
  earlier_within i h other = elim (cases_lt i at) [
    | inl low ↦ omega (arith, (has_earlier at i other).below low, low, r.within, count)
    | inr high ↦ elim (cases_lt at i) [
      | inl more ↦ omega (arith, (has_earlier at i other).above more, h, count)
      | inr same ↦ absurd (other (omega (arith, high, same)))
    ]
  ]

  reads : (i : ℕ) (e : Node) → i < length nodes → (i ≡ at → ⊥)
      → get_or all (earlier_number at i) e ≡ earlier_node at (earlier_sibling gone (get_or written i no_node))
  reads i e h other =
      get_or-map (earlier_node at) (remove without at) (earlier_number at i) no_node e
      (omega (arith, earlier_within i h other, count, count_kept))
      ∙ ap (earlier_node at) (read_earlier without at (omega (arith, r.within, count_without)) i no_node other
      ∙ get_or-map (earlier_sibling gone) written i no_node no_node (omega (arith, h, length-set nodes above changed)))

  written_as : {X : Type 0} (f : Node → X) → f changed ≡ f (get_or nodes above no_node) → (i : ℕ)
      → f (get_or written i no_node) ≡ f (get_or nodes i no_node)
  written_as f same i = elim (cases_eq i above) [
    | inl is ↦
        ap (λ k. f (get_or written k no_node)) is ∙ ap f (get_or-set_same nodes above changed no_node above_within)
        ∙ same ∙ ap (λ k. f (get_or nodes k no_node)) (sym is)
    | inr far ↦ ap f (get_or-set_other nodes above i changed no_node far)
  ]

  pub parent_is : (i : ℕ) (e : Node) → i < length nodes → (i ≡ at → ⊥)
      → (get_or all (earlier_number at i) e).parent ≡ earlier_number at (get_or nodes i no_node).parent
  parent_is i e h other =
      ap (λ (x : Node). x.parent) (reads i e h other)
      ∙ ap (earlier_number at) (written_as (λ (x : Node). x.parent) refl i)

  pub role_is : (i : ℕ) (e : Node) → i < length nodes → (i ≡ at → ⊥)
      → (get_or all (earlier_number at i) e).facts.role ≡ (get_or nodes i no_node).facts.role
  role_is i e h other =
      ap (λ (x : Node). x.facts.role) (reads i e h other) ∙ written_as (λ (x : Node). x.facts.role) refl i

  pub children_other : (i : ℕ) (e : Node) → i < length nodes → (i ≡ at → ⊥) → (i ≡ above → ⊥)
      → (get_or all (earlier_number at i) e).children ≡ earlier_children at (get_or nodes i no_node).children
  children_other i e h other far =
      ap (λ (x : Node). x.children) (reads i e h other)
      ∙ ap (λ (x : Node). earlier_children at x.children) (get_or-set_other nodes above i changed no_node far)

  pub children_own : (i : ℕ) (e : Node) → i ≡ above
      → (get_or all (earlier_number at i) e).children ≡ earlier_children at (Keyed entries)
  children_own i e is =
      let other : i ≡ at → ⊥ = λ same. absurd (omega (arith, is, same, placed.earlier)) in
      ap (λ (x : Node). x.children) (reads i e (omega (arith, is, above_within)) other)
      ∙ ap (λ k. earlier_children at (get_or written k no_node).children) is
      ∙ ap (λ (x : Node). earlier_children at x.children) (get_or-set_same nodes above changed no_node above_within)

  pub holds_is : (i : ℕ) (e : Node) → i < length nodes → (i ≡ at → ⊥)
      → holds_of (get_or all (earlier_number at i) e).children ≡ holds_of (get_or nodes i no_node).children
  holds_is i e h other =
      ap (λ (x : Node). holds_of x.children) (reads i e h other) ∙ holds_stay at (get_or written i no_node).children
      ∙ written_as (λ (x : Node). holds_of x.children) (sym r.keyed) i

  number_is : (i : ℕ) (e : Node) → i < length nodes → (i ≡ at → ⊥)
      → (get_or all (earlier_number at i) e).number ≡ (earlier_sibling gone (get_or nodes i no_node)).number
  number_is i e h other =
      ap (λ (x : Node). x.number) (reads i e h other)
      ∙ written_as (λ (x : Node). (earlier_sibling gone x).number) refl i

  pub number_far : (i : ℕ) (e : Node) → i < length nodes → (i ≡ at → ⊥) → ((get_or nodes i no_node).parent ≡ above → ⊥)
      → (get_or all (earlier_number at i) e).number ≡ (get_or nodes i no_node).number
  number_far i e h other far =
      number_is i e h other
      ∙ ap (λ b. cond b (earlier_number gone.number (get_or nodes i no_node).number) (get_or nodes i no_node).number)
      (ne_eqb (get_or nodes i no_node).parent above far)

  pub number_near : (i : ℕ) (e : Node) → i < length nodes → (i ≡ at → ⊥) → (get_or nodes i no_node).parent ≡ above
      → (get_or all (earlier_number at i) e).number ≡ earlier_number gone.number (get_or nodes i no_node).number
  number_near i e h other near =
      number_is i e h other
      ∙ ap (λ b. cond b (earlier_number gone.number (get_or nodes i no_node).number) (get_or nodes i no_node).number)
      (eq-eqb (get_or nodes i no_node).parent above near)

  -- two siblings have two numbers
  pub number_other : (i : ℕ) → 0 < i → i < length nodes → (i ≡ at → ⊥) → (get_or nodes i no_node).parent ≡ above
      → (get_or nodes i no_node).number ≡ gone.number → ⊥
  number_other i later h other near same =
      let n : ℕ = (get_or nodes i no_node).number in
      let is : i ≡ get_or (child_ids kids) n 0 =
      sym (node_placed nodes r.stored i no_node later h).found
      ∙ ap (λ p. get_or (child_ids (get_or nodes p no_node).children) n 0) near in
      other (is ∙ ap (λ k. get_or (child_ids kids) k 0) same ∙ placed.found)

  pub parent_other : (i : ℕ) → 0 < i → i < length nodes → (get_or nodes i no_node).parent ≡ at → ⊥
  parent_other i later h is =
      let none : length (child_ids (get_or nodes (get_or nodes i no_node).parent no_node).children) ≡ 0 =
      ap (λ p. length (child_ids (get_or nodes p no_node).children)) is ∙ ap length r.bare in
      omega (arith, (node_placed nodes r.stored i no_node later h).low, none)

  -- what each node leaves as it was
  pub leaves : {X : Type 0} (f : Node → X) → ((x : Node) → f (earlier_node at (earlier_sibling gone x)) ≡ f x)
      → f changed ≡ f (get_or nodes above no_node) → map f all ≡ remove (map f nodes) at
  leaves f same at_above =
      let then : Node → Node = λ x. earlier_node at (earlier_sibling gone x) in
      let stays : map (λ (x : Node). f (earlier_node at x)) without ≡ map f nodes =
      map-map (λ (x : Node). f (earlier_node at x)) (earlier_sibling gone) written ∙ sym (map-map f then written)
      ∙ map_through f then same written ∙ map-set_same f nodes above changed no_node at_above in
      map-map f (earlier_node at) (remove without at) ∙ map-removed (λ (x : Node). f (earlier_node at x)) without at
      ∙ ap (λ ys. remove ys at) stays
