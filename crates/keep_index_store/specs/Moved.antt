-- The nodes, where the last one takes the number of an earlier one, and each from there on the next number.
use Rattle.std.specs.Prelude.{ℕ, ◌+◌, ◌-◌, ◌<◌, ◌≤◌, ◌≡◌, ◌==◌, if◌then◌else◌, List, [], length, map, take, All, None}
use Rattle.std.specs.Prelude.{slice_index_or, slice_set}
use Rattle.std.specs.List.{insert}
use Rattle.keep_path.specs.NodeInfos.{later_number}
use Rattle.keep_index_store.specs.declared.links.NewPlace.{NewPlace}
use Rattle.keep_index_store.specs.declared.links.ParentLink.{ParentLink}
use Rattle.keep_index_store.specs.declared.nodes.Node.{Node as StoredNode}
use Rattle.keep_index_store.specs.AllNodes.{Node, no_node, node_at, with_children}
use Rattle.keep_index_store.specs.Children.{ChildList, Bare, Keyed, Listed, holds_of, child_ids, named}
use Rattle.keep_index_store.specs.Stored.{IsStored}
use Rattle.keep_index_store.specs.Trie.{TrieNode, nothing, by_key, by_index, IsTrie}
use Rattle.keep_index_store.specs.Trie.{paths_of, states_of, holdings_of, children_of, holds_at}
use Rattle.keep_index_store.specs.Trie.{parent_at}

-- the list, where the last element stands at that place; `none` is read only of an empty list
abbrev pub with_last_at : {X : Type 0} → X → List X → ℕ → List X
with_last_at none xs at = insert (take (length xs - 1) xs) at (slice_index_or xs (length xs - 1) none)

-- what the number of a node is then, where the last has this number
abbrev pub moved_number : ℕ → ℕ → ℕ → ℕ
moved_number last at id = if id == last then at else later_number at id

abbrev pub moved_children : ℕ → ℕ → ChildList → ChildList
moved_children last at Bare = Bare
moved_children last at (Keyed pairs) = Keyed (map (λ e. (e.0, moved_number last at e.1)) pairs)
moved_children last at (Listed ids) = Listed (map (moved_number last at) ids)

-- a node, where the numbers of its parent and of its children are as they are then
abbrev pub moved_node : ℕ → ℕ → Node → Node
moved_node last at n =
    record n { parent = later_number at n.parent; children = moved_children last at n.children }

-- the nodes, where the last child by key of the last node's parent comes after `n` others there
abbrev pub reordered_node : Node → ℕ → Node → Node
reordered_node last n x =
    record x { number = if x.parent == last.parent then moved_number last.number n x.number else x.number }

abbrev pub with_keys_reordered : List Node → ℕ → ℕ → List Node
with_keys_reordered nodes above n =
    with_children nodes above (Keyed (with_last_at ([], 0) (named (node_at nodes above).children) n))

abbrev pub reordered : List Node → ℕ → List Node
reordered nodes n =
    map (reordered_node (node_at nodes (length nodes - 1)) n)
    (with_keys_reordered nodes (node_at nodes (length nodes - 1)).parent n)

abbrev pub moved_nodes : List Node → ℕ → List Node
moved_nodes nodes at = map (moved_node (length nodes - 1) at) (with_last_at no_node nodes at)

-- no item is the node before `at` where the next item is the node `at`
abbrev pub IsApart : ℕ → List ℕ → Type 0
IsApart at ids =
    (k : ℕ) → k + 1 < length ids → slice_index_or ids k 0 + 1 ≡ at → slice_index_or ids (k + 1) 0 ≡ at → ⊥

-- if one of the numbers is `at` or after it, so is the last of them
abbrev pub EndsLate : ℕ → List ℕ → Type 0
EndsLate at ids =
    (k : ℕ) → k < length ids → at ≤ slice_index_or ids k 0 → at ≤ slice_index_or ids (length ids - 1) 0

-- the children of a node can have the numbers that they have then
pub record CanMove (last at : ℕ) (c : ChildList) : Type 0 where
  pub place : at ≤ last
  pub within : All (λ id. id ≤ last) (child_ids c)
  pub ends : EndsLate at (child_ids c)
  pub items : holds_of c ≡ by_index → All (λ id. id < last) (child_ids c)
  pub apart : holds_of c ≡ by_index → IsApart at (child_ids c)

-- a node, where its children have the numbers that they have then
abbrev pub with_moved_children : ℕ → ℕ → StoredNode → StoredNode
with_moved_children last at n = record n { children = moved_children last at n.children }

-- the last node has no children, is one by key of a node before `at`, and is to come after the `n` children before `at`
-- there; the nodes before `at` and at it are no items of one array
pub record IsLast (nodes : List Node) (at n : ℕ) : Type 0 where
  pub stored : IsStored nodes
  pub within : at < length nodes
  pub below : (node_at nodes (length nodes - 1)).parent < at
  pub bare : child_ids (node_at nodes (length nodes - 1)).children ≡ []
  pub keyed : holds_of (node_at nodes (node_at nodes (length nodes - 1)).parent).children ≡ by_key
  pub place : n < length (child_ids (node_at nodes (node_at nodes (length nodes - 1)).parent).children)
  pub before : (k : ℕ) → k < n
      → slice_index_or (child_ids (node_at nodes (node_at nodes (length nodes - 1)).parent).children) k 0 < at
  pub after : (k : ℕ) → n ≤ k
      → k + 1 < length (child_ids (node_at nodes (node_at nodes (length nodes - 1)).parent).children)
      → at ≤ slice_index_or (child_ids (node_at nodes (node_at nodes (length nodes - 1)).parent).children) k 0
  pub apart : (node_at nodes (at - 1)).parent ≡ (node_at nodes at).parent
      → holds_of (node_at nodes (node_at nodes at).parent).children ≡ by_key

-- the nodes as they are stored, where the last key of a node comes after `number` others
abbrev pub stored_at : List StoredNode → ℕ → StoredNode
stored_at list i = slice_index_or list i (record { children = Bare; facts = no_node.facts })

abbrev pub with_last_key : List StoredNode → NewPlace → List StoredNode
with_last_key list p =
    slice_set list p.above (record (stored_at list p.above)
    { children = Keyed (with_last_at ([], 0) (named (stored_at list p.above).children) p.number) })

-- a parent link, where the numbers of the nodes and of the children of `above` are as they are then
abbrev pub moved_link : NewPlace → ParentLink → ParentLink
moved_link p h = record {
  parent = later_number p.at h.parent;
  number = if h.parent == p.above then moved_number p.before p.number h.number else h.number;
}

-- the same of the number among the children of `above` alone, and of that of the parent alone
abbrev pub reordered_link : NewPlace → ParentLink → ParentLink
reordered_link p h =
    record h { number = if h.parent == p.above then moved_number p.before p.number h.number else h.number }

abbrev pub with_later_parent : ℕ → ParentLink → ParentLink
with_later_parent at h = record h { parent = later_number at h.parent }

-- no child of `above` comes after the last node there; what the root's link says is never read
abbrev pub NoneComesAfter : NewPlace → List ParentLink → Type 0
NoneComesAfter p links =
    (k : ℕ) (d : ParentLink) → 0 < k → k < length links → (slice_index_or links k d).parent ≡ p.above
    → (slice_index_or links k d).number ≤ p.before

-- the last node takes that number, and nothing else changes
pub record MovesLast (old new : List TrieNode) (at : ℕ) : Type 0 where
  pub trie : IsTrie old
  pub trie' : IsTrie new
  pub within : at < length old
  pub paths : paths_of new ≡ with_last_at [] (paths_of old) at
  pub states : states_of new ≡ with_last_at None (states_of old) at
  pub holdings : holdings_of new ≡ with_last_at nothing (holdings_of old) at

-- the last node can take that number: it has no children, and is one by key of an earlier node than `at`; the nodes
-- before `at` and at it are no items of one array
pub record CanTake (trie : List TrieNode) (at : ℕ) : Type 0 where
  pub within : at < length trie
  pub below : parent_at trie (length trie - 1) < at
  pub bare : children_of trie (length trie - 1) ≡ []
  pub keyed : holds_at trie (parent_at trie (length trie - 1)) ≡ by_key
  pub apart : parent_at trie (at - 1) ≡ parent_at trie at → holds_at trie (parent_at trie at) ≡ by_key
