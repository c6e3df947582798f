-- What can be asked of a document: looked up in what it says.
use Rattle.std.specs.Prelude.{ℕ, Bool, true, false, not, ◌&&◌, if◌then◌else◌, List, [], ◌∷◌, map, Option, Some, None}
use Rattle.std.specs.List.{filter_map, count_by}
use Rattle.keep_meaning.specs.Fact as fact
use Rattle.keep_meaning.specs.Fact.{Fact, table, array, is_bracket}
use Rattle.keep_meaning.specs.Nodes.{is_node, fact_at, is_element, has}
use Rattle.keep_path.specs.Path.{Part, key, index, same_path}
pub use Rattle.keep_path.specs.Path.{last_part, without_last, strip}
use Rattle.keep_meaning.specs.Marks.{through, past, define, element, dotted, value, begun, passed, item, Mention}

-- the root, a table or an inline table; an array of tables is none
abbrev pub is_table_fact : Option Fact → Bool
is_table_fact None = true
is_table_fact (Some f) =
    elim f [
      | fact.string v ↦ false
      | fact.integer v ↦ false
      | fact.boolean v ↦ false
      | fact.float v ↦ false
      | fact.moment k v ↦ false
      | fact.array ↦ false
      | fact.inline ↦ true
      | fact.table ↦ true
    ]

abbrev pub is_table : List Part → List Mention → Bool
is_table path ms = is_table_fact (fact_at path ms) && not (has is_element path ms)

-- how many prefixes of the path, the path itself left out, are arrays or inline tables
abbrev pub is_bracket_at : List Mention → List Part → Bool
is_bracket_at ms path = elim (fact_at path ms) [ None ↦ false | Some f ↦ is_bracket f ]

-- the prefixes of a path, from the shortest on, the whole left out
abbrev pub prefixes : List Part → List (List Part)
prefixes [] = []
prefixes (p ∷ ps) = [] ∷ map (λ prefix. p ∷ prefix) (prefixes ps)

abbrev pub enclosing : List Part → List Mention → ℕ
enclosing path ms = count_by (is_bracket_at ms) (prefixes path)

-- the last of those that pass
abbrev pub last_passing : {A : Type 0} → (A → Bool) → List A → Option A
last_passing test [] = None
last_passing test (x ∷ xs) = elim (last_passing test xs) [ Some y ↦ Some y | None ↦ (if test x then Some x else None) ]

-- the longest prefix that names a node, the root at least
abbrev pub holder : List Part → List Mention → List Part
holder path ms = elim (last_passing (λ prefix. is_node prefix ms) (prefixes path)) [ Some a ↦ a | None ↦ [] ]

abbrev pub is_key : Part → Bool
is_key (key text) = true
is_key (index n) = false

abbrev pub is_index : Part → Bool
is_index part = not (is_key part)

-- the keys of a path, its indexes left out
abbrev pub key_text : Part → Option (List ℕ)
key_text (key text) = Some text
key_text (index n) = None

abbrev pub keys_in : List Part → List (List ℕ)
keys_in = filter_map key_text

-- the number of an item to be put in, where the path ends in an index and the rest names a static array
abbrev pub is_array_at : List Part → List Mention → Bool
is_array_at path ms =
    elim (fact_at path ms) [
      | None ↦ false
      | Some f ↦ elim f [
        | fact.string v ↦ false
        | fact.integer v ↦ false
        | fact.boolean v ↦ false
        | fact.float v ↦ false
        | fact.moment k v
            ↦ false
        | fact.array ↦ true
        | fact.inline ↦ false
        | fact.table ↦ false
      ]
    ]

abbrev pub item_number : List Part → List Mention → Option ℕ
item_number path ms = elim (last_part path) [
  | None ↦ None
  | Some part ↦ elim part [ key text ↦ None | index n ↦ (if is_array_at (without_last path) ms then Some n else None) ]
]

-- how many items an array has
abbrev pub is_item_of : List Part → Mention → Bool
is_item_of path m =
    elim m.kind [
      | through ↦ false
      | past ↦ false
      | define ↦ false
      | element ↦ false
      | dotted ↦ false
      | value f ↦ false
      | begun ↦ false
      | passed ↦ false
      | item f ↦ same_path (without_last m.path) path
    ]

abbrev pub item_count : List Part → List Mention → ℕ
item_count path ms = count_by (is_item_of path) ms
