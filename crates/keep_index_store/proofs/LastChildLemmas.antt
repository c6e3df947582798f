-- Where the last child of each of some nodes is one of them, no later node has one of them as its parent.
--
-- The children of a node ascend (`ascend_of`), so the last of them is the greatest (`before_end`). A node is listed
-- among the children of its parent (`node_placed`), so it is no later than the last of these.
--
-- Theorems: `before_end`; `none_after`.
use Rattle.std.proofs.Common.{◌≡◌, ◌⊎◌, ℕ, ◌-◌, ◌<◌, ◌≤◌, List, length, get_or, sym, subst, arith, inl, inr}
use Rattle.std.proofs.lemmas.Bool.{cases_lt}
use Rattle.keep_index_store.specs.AllNodes.{Node, no_node, node_at}
use Rattle.keep_index_store.specs.Below.{HasChildrenBefore}
use Rattle.keep_index_store.specs.Children.{child_ids}
use Rattle.keep_index_store.specs.Stored.{IsStored, trie_of}
use Rattle.keep_index_store.proofs.AscendingLemmas.{Ascends, ascend_of}
use Rattle.keep_index_store.proofs.StoredLemmas.{IsPlaced, node_placed}

ids_ascend : (nodes : List Node) → IsStored nodes → (i : ℕ) → i < length nodes
    → Ascends (child_ids (node_at nodes i).children)
ids_ascend nodes stored i h = subst Ascends (sym (stored.kids i no_node h)) (ascend_of (trie_of nodes) i)

pub before_end : (nodes : List Node) → IsStored nodes → (i end n child : ℕ) → i < length nodes
    → length (child_ids (node_at nodes i).children) ≡ n
    → get_or (child_ids (node_at nodes i).children) (n - 1) 0 ≡ child
    → child < end → HasChildrenBefore nodes i end
before_end nodes stored i end n child h count is low k few = elim (cases_lt k (n - 1)) [
  | inl before ↦ omega (arith, is, low, ids_ascend nodes stored i h k (n - 1) 0 before (omega (arith, few, count)))
  | inr not ↦
      let here : n - 1 ≡ k = omega (arith, not, few, count) in
      omega (arith, low, subst (λ (m : ℕ). get_or (child_ids (node_at nodes i).children) m 0 ≡ child) here is)
]

pub none_after : (nodes : List Node) → IsStored nodes → (id end : ℕ)
    → ((i : ℕ) → id ≤ i → i < end → HasChildrenBefore nodes i end) → (j : ℕ) → 0 < j → end ≤ j → j < length nodes
    → ((node_at nodes j).parent < id) ⊎ (end ≤ (node_at nodes j).parent)
none_after nodes stored id end all j later after within =
    let p : IsPlaced nodes j no_node = node_placed nodes stored j no_node later within in
    elim (cases_lt (node_at nodes j).parent id) [
      | inl earlier ↦ inl earlier
      | inr from ↦ elim (cases_lt (node_at nodes j).parent end) [
        | inl low ↦
            absurd (omega (
              arith,
              after,
              p.found,
              all (node_at nodes j).parent (omega (arith, from)) low (node_at nodes j).number p.low,
            ))
        | inr high ↦ inr (omega (arith, high))
      ]
    ]
