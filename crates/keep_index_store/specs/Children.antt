-- The children of a node, by keys and by numbers.
use Rattle.std.specs.Prelude.{ℕ, List, [], map, Option, None, slice_get, bytes_eq}
use Rattle.std.specs.Map.{lookup}
use Rattle.keep_index_store.specs.declared.children.Holds.{Holds}
use Rattle.keep_index_store.specs.declared.children.Holds.TheVariants as holds
use Rattle.keep_index_store.specs.Trie.{Holding, nothing, by_key, by_index}

-- at a scalar none; at a table by their keys, decoded; at an array or an array of tables items or elements: all in the
-- order of first meeting
pub data ChildList : Type 0 where
  Bare : ChildList
  Keyed : List (List ℕ × ℕ) → ChildList
  Listed : List ℕ → ChildList

abbrev pub holding : Holds → Holding
holding holds.Nothing = nothing
holding holds.Keys = by_key
holding holds.Items = by_index

-- none yet
abbrev pub no_children : Holding → ChildList
no_children nothing = Bare
no_children by_key = Keyed []
no_children by_index = Listed []

abbrev pub holds_of : ChildList → Holding
holds_of Bare = nothing
holds_of (Keyed pairs) = by_key
holds_of (Listed ids) = by_index

-- the children by their keys
abbrev pub named : ChildList → List (List ℕ × ℕ)
named Bare = []
named (Keyed pairs) = pairs
named (Listed ids) = []

-- all children
abbrev pub child_ids : ChildList → List ℕ
child_ids Bare = []
child_ids (Keyed pairs) = map (λ e. e.1) pairs
child_ids (Listed ids) = ids

-- the child of a key
abbrev pub child_named : ChildList → List ℕ → Option ℕ
child_named Bare text = None
child_named (Keyed pairs) text = lookup (bytes_eq text) pairs
child_named (Listed ids) text = None

-- the item or element of a number
abbrev pub child_numbered : ChildList → ℕ → Option ℕ
child_numbered Bare n = None
child_numbered (Keyed pairs) n = None
child_numbered (Listed ids) n = slice_get ids n
