-- The children of a node, as they are stored.
use Rattle.std.specs.Prelude.{◌+◌, ◌≤◌, ◌^◌, [], ◌∷◌}
use Rattle.keep_index_store.specs.declared.children.Form.{Form}
use Rattle.keep_index_store.specs.declared.children.Form.TheVariants.{Nothing, NoKeys, OneKey, Keys, Run, Items}
use Rattle.keep_index_store.specs.Children.{ChildList, Bare, Keyed, Listed}
use Rattle.keep_index_store.specs.Runs.{consecutive}

-- the children that a form stores
abbrev pub children_in : Form → ChildList
children_in Nothing = Bare
children_in NoKeys = Keyed []
children_in (OneKey one) = Keyed ((one.value.key, one.value.child) ∷ [])
children_in (Keys keys) = Keyed keys.value
children_in (Run len first) = Listed (consecutive first len)
children_in (Items items) = Listed items.value.items

-- the numbers of the nodes of a run fit into 64 bits
abbrev pub FitsIn64Bits : Form → Type 0
FitsIn64Bits (Run len first) = first + len ≤ 2 ^ 64
FitsIn64Bits form = Unit {0}
