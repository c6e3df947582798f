-- What can be moved where nodes give place to those of another tree, and the nodes and links as they are stored then.
use Rattle.std.specs.Prelude.{ℕ, suc, ◌+◌, ◌-◌, ◌<◌, ◌≤◌, ◌^◌, All, List, ◌∷◌, drop, map, slice_index_or}
use Rattle.keep_path.specs.NodesBelow.{spliced}
use Rattle.keep_index_store.specs.declared.links.ParentLink.{ParentLink}
use Rattle.keep_index_store.specs.declared.nodes.Node.{Node as StoredNode}
use Rattle.keep_index_store.specs.declared.shift.Shift.{Shift}
use Rattle.keep_index_store.specs.Below.{IsOnOneSide, shift_inside, shifted_by, shifted_children}
use Rattle.keep_index_store.specs.Children.{ChildList, child_ids}
use Rattle.keep_index_store.specs.Links.{FitsIn32Bits}
use Rattle.keep_index_store.specs.Moved.{EndsLate, stored_at}

-- a number that fits into 64 bits where it is moved, and does not fall below 0
abbrev pub CanShift : Shift → ℕ → Type 0
CanShift by n = (n + by.new < 2 ^ 64) × (by.from ≤ n → by.old ≤ n + by.new)

-- the children of a node can have the numbers that they have then
pub record CanShiftChildren (by : Shift) (c : ChildList) : Type 0 where
  pub fit : All (CanShift by) (child_ids c)
  pub ends : EndsLate by.from (child_ids c)
  pub sides : IsOnOneSide by.from c

-- a node, where its children have those numbers
abbrev pub with_shifted_children : Shift → StoredNode → StoredNode
with_shifted_children by n = record n { children = shifted_children by n.children }

-- a parent link, where the parent has the number that it has then
abbrev pub shifted_link : Shift → ParentLink → ParentLink
shifted_link by h = record h { parent = shifted_by by h.parent }

-- both of its numbers fit into 32 bits then
abbrev pub CanShiftLink : Shift → ParentLink → Type 0
CanShiftLink by h = (CanShift by h.parent) × (FitsIn32Bits (shifted_link by h))

-- the link of a node; what stands in place of one that is not there is never read
abbrev pub link_at : List ParentLink → ℕ → ParentLink
link_at links i = slice_index_or links i (record { parent = 0; number = 0 })

-- The links, where those of the node `id` and of the `gone` ones after it give place to those of the other tree, and
-- the node has its own.
abbrev pub replaced_links : Shift → ℕ → ℕ → List ParentLink → List ParentLink → List ParentLink
replaced_links beside id gone links inside =
    spliced id (suc gone)
    (link_at (map (shifted_link beside) links) id ∷ map (shifted_link (shift_inside id)) (drop 1 inside))
    (map (shifted_link beside) links)

-- The nodes as they are stored, where the node `id` and the `gone` ones after it give place to those of the other tree,
-- whose root has the facts of the node.
abbrev pub replaced_stored : Shift → ℕ → ℕ → List StoredNode → List StoredNode → List StoredNode
replaced_stored beside id gone list inside =
    spliced id (suc gone)
    (record (with_shifted_children (shift_inside id) (stored_at inside 0)) { facts = (stored_at list id).facts }
    ∷ map (with_shifted_children (shift_inside id)) (drop 1 inside))
    (map (with_shifted_children beside) list)

-- how the numbers of the nodes beside the replaced ones are moved, by how many nodes there are
abbrev pub shift_of : ℕ → ℕ → ℕ → ℕ → Shift
shift_of len id gone inside = record { from = suc id + gone; old = len; new = (len - gone) + (inside - 1) }
