-- The nodes, where those below one of them give place to those of another tree below its root.
use Rattle.std.specs.Prelude.{◌≡◌, ◌⊎◌, ℕ, suc, ◌+◌, ◌-◌, ◌<◌, ◌≤◌, ◌==◌, ◌^◌, if◌then◌else◌, All, List, length}
use Rattle.std.specs.Prelude.{drop, map, slice_index_or, Option, Some, None}
use Rattle.keep_path.specs.NodesBelow as below
use Rattle.keep_path.specs.NodesBelow.{shifted, spliced}
use Rattle.keep_index_store.specs.declared.facts.NodeFacts.{NodeFacts}
use Rattle.keep_index_store.specs.declared.facts.OriginKind.{OriginKind}
use Rattle.keep_index_store.specs.declared.facts.OriginKind.TheVariants as origin_kind
use Rattle.keep_index_store.specs.declared.nodes.Node.{Node as StoredNode}
use Rattle.keep_index_store.specs.declared.shift.NumberShifts.{NumberShifts}
use Rattle.keep_index_store.specs.declared.shift.Shift.{Shift}
use Rattle.keep_index_store.specs.declared.shift.Totals.{Totals}
use Rattle.keep_index_store.specs.AllNodes.{Node, node_at, with_children}
use Rattle.keep_index_store.specs.Children.{ChildList, Bare, Keyed, Listed, child_ids, holds_of}
use Rattle.keep_index_store.specs.Moved.{EndsLate, IsApart}
use Rattle.keep_index_store.specs.Removed.{HasStoredLink}
use Rattle.keep_index_store.specs.Stored.{IsStored}
use Rattle.keep_index_store.specs.Trie.{by_key, by_index}

-- the totals, as the definitions of all layers have them
abbrev pub totals_in : Totals → below.Totals
totals_in t = record { values = t.values; keys = t.keys }

-- ---- the facts

abbrev pub shifted_by : Shift → ℕ → ℕ
shifted_by s n = shifted s.from s.old s.new n

-- how the number that a place names is moved, if it is that of a value
abbrev pub value_shift : NumberShifts → OriginKind → Option Shift
value_shift by origin_kind.Root = None
value_shift by origin_kind.Value = Some by.values
value_shift by origin_kind.Header = None
value_shift by origin_kind.Element = None
value_shift by origin_kind.Dotted = Some by.values
value_shift by origin_kind.Through = None
value_shift by origin_kind.Tables = None

abbrev pub moved_by : Option Shift → ℕ → ℕ
moved_by None n = n
moved_by (Some s) n = shifted_by s n

-- the facts, where the numbers of values and of key parts are moved
abbrev pub shifted_facts : NumberShifts → NodeFacts → NodeFacts
shifted_facts by t = record t {
  key = if t.marks == 0 then t.key else shifted_by by.keys t.key;
  number = moved_by (value_shift by t.origin) t.number;
}

-- a node with these facts, and the same node without its parent link
abbrev pub with_shifted_facts : NumberShifts → Node → Node
with_shifted_facts by n = record n { facts = shifted_facts by n.facts }

abbrev pub with_shifted_stored : NumberShifts → StoredNode → StoredNode
with_shifted_stored by n = record n { facts = shifted_facts by n.facts }

-- ---- the nodes

-- the children, where the numbers of the nodes are moved
abbrev pub shifted_children : Shift → ChildList → ChildList
shifted_children by Bare = Bare
shifted_children by (Keyed pairs) = Keyed (map (λ e. (e.0, shifted_by by e.1)) pairs)
shifted_children by (Listed ids) = Listed (map (shifted_by by) ids)

-- a node, where the numbers of its parent and of its children are moved
abbrev pub shifted_node : Shift → Node → Node
shifted_node by n =
    record n { parent = shifted_by by n.parent; children = shifted_children by n.children }

-- how the numbers of the nodes beside the replaced ones are moved, and those of the nodes in their place
abbrev pub shift_beside : List Node → ℕ → ℕ → List Node → Shift
shift_beside nodes id gone inside = record {
  from = suc id + gone;
  old = length nodes;
  new = (length nodes - gone) + (length inside - 1);
}

abbrev pub shift_inside : ℕ → Shift
shift_inside id = record { from = 0; old = 0; new = id }

-- The nodes, where the `gone` ones after the node `id` give place to those of the other tree, without its root, whose
-- children that node has then.
abbrev pub replaced_below : List Node → ℕ → ℕ → List Node → List Node
replaced_below nodes id gone inside =
    spliced (suc id) gone (map (shifted_node (shift_inside id)) (drop 1 inside))
    (with_children (map (shifted_node (shift_beside nodes id gone inside)) nodes) id
    (shifted_children (shift_inside id) (node_at inside 0).children))

-- Those `gone` nodes are all that are below the node `id`, which is a child by key.
pub record IsRunBelow (nodes : List Node) (id gone : ℕ) : Type 0 where
  pub stored : IsStored nodes
  pub later : 0 < id
  pub within : id + gone < length nodes
  pub keyed : holds_of (node_at nodes (node_at nodes id).parent).children ≡ by_key
  pub below : (j : ℕ) → id < j → j ≤ id + gone → id ≤ (node_at nodes j).parent
  pub others : (j : ℕ) → id + gone < j → j < length nodes
      → ((node_at nodes j).parent < id) ⊎ (id + gone < (node_at nodes j).parent)

-- each child of the node i has a number before `end`
abbrev pub HasChildrenBefore : List Node → ℕ → ℕ → Type 0
HasChildrenBefore nodes i end =
    (k : ℕ) → k < length (child_ids (node_at nodes i).children)
    → slice_index_or (child_ids (node_at nodes i).children) k 0 < end

-- no two items of which the one is the node after the other lie on both sides of a number
abbrev pub IsOnOneSide : ℕ → ChildList → Type 0
IsOnOneSide from c = holds_of c ≡ by_index → IsApart from (child_ids c)

-- each number of a node that a node has is that of one that is there
abbrev pub HasNumbersBelow : ℕ → Node → Type 0
HasNumbersBelow many n = (n.parent < many) × All (λ id. id < many) (child_ids n.children)

-- the nodes can give place: numbers are small, no run of items beside them goes on after them, and where a node has a
-- child after them, its last child is
pub record CanReplaceBelow (nodes : List Node) (id gone : ℕ) (inside : List Node) : Type 0 where
  pub within : id + gone < length nodes
  pub some : 0 < length inside
  pub few : length nodes + length inside < 2 ^ 32
  pub links : All HasStoredLink nodes
  pub inside_links : All HasStoredLink inside
  pub numbers : All (HasNumbersBelow (length nodes)) nodes
  pub inside_numbers : All (HasNumbersBelow (length inside)) inside
  pub sides : (j : ℕ) → j < length nodes → (j < id) ⊎ (id + gone < j)
      → IsOnOneSide (suc id + gone) (node_at nodes j).children
  pub ends : (j : ℕ) → j < length nodes → EndsLate (suc id + gone) (child_ids (node_at nodes j).children)
