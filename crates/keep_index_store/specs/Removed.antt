-- The nodes, where one that has no children goes: each after it has the number before its own.
use Rattle.std.specs.Prelude.{ℕ, ◌^◌, ◌<◌, ◌≡◌, ◌≢◌, ◌==◌, if◌then◌else◌, List, [], length, map, slice_set, All}
use Rattle.std.specs.List.{remove}
use Rattle.keep_path.specs.NodeInfos.{earlier_number}
use Rattle.keep_index_store.specs.declared.links.ParentLink.{ParentLink}
use Rattle.keep_index_store.specs.declared.nodes.Node.{Node as StoredNode}
use Rattle.keep_index_store.specs.AllNodes.{Node, node_at, with_children}
use Rattle.keep_index_store.specs.Children.{ChildList, Bare, Keyed, Listed, holds_of, child_ids, named}
use Rattle.keep_index_store.specs.Moved.{stored_at}
use Rattle.keep_index_store.specs.Stored.{IsStored}
use Rattle.keep_index_store.specs.Trie.{by_key, by_index}

-- the children, where each has the number that it has then
abbrev pub earlier_children : ℕ → ChildList → ChildList
earlier_children at Bare = Bare
earlier_children at (Keyed pairs) = Keyed (map (λ e. (e.0, earlier_number at e.1)) pairs)
earlier_children at (Listed ids) = Listed (map (earlier_number at) ids)

-- a node, where the numbers of its parent and of its children are as they are then
abbrev pub earlier_node : ℕ → Node → Node
earlier_node at n =
    record n { parent = earlier_number at n.parent; children = earlier_children at n.children }

-- a node, where the child `gone` of its parent is no more counted among the children there
abbrev pub earlier_sibling : Node → Node → Node
earlier_sibling gone n =
    record n { number = if n.parent == gone.parent then earlier_number gone.number n.number else n.number }

-- the nodes, where that child is none of its parent's
abbrev pub without_child : List Node → Node → List Node
without_child nodes gone =
    map (earlier_sibling gone)
    (with_children nodes gone.parent (Keyed (remove (named (node_at nodes gone.parent).children) gone.number)))

abbrev pub removed_nodes : List Node → ℕ → List Node
removed_nodes nodes at = map (earlier_node at) (remove (without_child nodes (node_at nodes at)) at)

-- the node is a child by key, and has no children
pub record IsLeaf (nodes : List Node) (at : ℕ) : Type 0 where
  pub stored : IsStored nodes
  pub later : 0 < at
  pub within : at < length nodes
  pub bare : child_ids (node_at nodes at).children ≡ []
  pub keyed : holds_of (node_at nodes (node_at nodes at).parent).children ≡ by_key

-- both numbers of the parent link are stored in 32 bits
abbrev pub HasStoredLink : Node → Type 0
HasStoredLink n = (n.parent < 2 ^ 32) × (n.number < 2 ^ 32)

-- ---- the nodes as they are stored

-- the node is no item or element here
abbrev pub HasNoItem : ℕ → ChildList → Type 0
HasNoItem at c = holds_of c ≡ by_index → All (λ id. id ≢ at) (child_ids c)

-- a node, where its children have the numbers that they have then
abbrev pub with_earlier_children : ℕ → StoredNode → StoredNode
with_earlier_children at n = record n { children = earlier_children at n.children }

-- the nodes, where the child with that parent link is none of its parent's
abbrev pub without_key : List StoredNode → ParentLink → List StoredNode
without_key list gone =
    slice_set list gone.parent (record (stored_at list gone.parent)
    { children = Keyed (remove (named (stored_at list gone.parent).children) gone.number) })

-- a parent link, where the numbers of the nodes and of the children of the parent of `gone` are as they are then
abbrev pub earlier_link : ℕ → ParentLink → ParentLink → ParentLink
earlier_link at gone h = record {
  parent = earlier_number at h.parent;
  number = if h.parent == gone.parent then earlier_number gone.number h.number else h.number;
}
