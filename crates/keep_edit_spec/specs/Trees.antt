-- The change of the tree by an edit: where the fact at each path of the new document comes from.
use Rattle.std.specs.Prelude.{◌≡◌, ℕ, ◌+◌, ◌-◌, Bool, true, false, not, ◌&&◌, ◌||◌, nat_lt, ◌==◌, if◌then◌else◌, List}
use Rattle.std.specs.Prelude.{[], ◌∷◌, ◌++◌, Option, Some, None}
use Rattle.keep_meaning.specs.Fact.{Fact, table}
use Rattle.keep_path.specs.Path.{Part, key, index, same_path}
use Rattle.keep_meaning.specs.Marks.{Mention, header_path, elements_of}
use Rattle.keep_meaning.specs.Meaning.{mentions_of_value}
use Rattle.keep_edit_spec.specs.Look.{strip, holder, last_part, without_last, item_number}
use Rattle.keep_meaning.specs.Nodes.{fact_at, has, is_define, is_begun, is_dotted, is_root}
use Rattle.keep_edit_spec.specs.Refusals.{tables_in, beside}
use Rattle.keep_edit_spec.specs.Edits.{Edit, set, insert, rename, remove, append_table, append_element}

-- where the fact at a path comes from
pub data Source : Type 0 where
  from : (path : List Part) → Source  -- what was there at this path
  given : (path : List Part) → Source  -- what is at this path of the new value
  a_table : Source  -- a new table
  nothing : Source

-- the items of an array: one is put in as number n, or taken out
abbrev pub put_in : List Part → ℕ → List Part → Source
put_in path n q = elim (strip path q) [
  | None ↦ from q
  | Some more ↦ elim more [
    | [] ↦ from q
    | part ∷ rest ↦ elim part [
      | key text ↦ from q
      | index m ↦ (if nat_lt m n then from q else if m == n then given rest else from (path ++ index (m - 1) ∷ rest))
    ]
  ]
]

abbrev pub put_out : List Part → ℕ → List Part → Source
put_out path n q = elim (strip path q) [
  | None ↦ from q
  | Some more ↦ elim more [
    | [] ↦ from q
    | part ∷ rest ↦ elim part [
      | key text ↦ from q
      | index m ↦ (if nat_lt m n then from q else from (path ++ index (m + 1) ∷ rest))
    ]
  ]
]

abbrev pub has_fact : List Part → List Mention → Bool
has_fact path ms = elim (fact_at path ms) [ None ↦ false | Some f ↦ true ]

-- a table that is there only because headers go through it
abbrev pub is_through_alone : List Part → List Mention → Bool
is_through_alone path ms =
    not (is_root path) && not ((has is_define path ms || has is_begun path ms)
    || (has is_dotted path ms || has_fact path ms))

abbrev pub source : List Mention → Edit → List Part → Source
source ms (set path value) q = elim (strip path q) [ Some more ↦ given more | None ↦ from q ]
source ms (insert path value) q = elim (item_number path ms) [
  | Some n ↦ put_in (without_last path) n q
  | None ↦ elim (strip path q) [
    | Some more ↦ given more
    | None ↦ (if same_path q (holder path ms) && is_through_alone q ms then a_table else from q)
  ]
]
source ms (rename path text) q = elim (strip (beside path text) q) [
  | Some more ↦ from (path ++ more)
  | None ↦ elim (strip path q) [ Some more ↦ nothing | None ↦ from q ]
]
source ms (remove path) q = elim (last_part path) [
  | None ↦ from q
  | Some part ↦ elim part [
    | index n ↦ put_out (without_last path) n q
    | key text ↦ elim (strip path q) [ Some more ↦ nothing | None ↦ from q ]
  ]
]
source ms (append_table keys) q =
    if same_path q (header_path (tables_in ms) [] keys) then a_table else from q
source ms (append_element keys) q =
    let path = header_path (tables_in ms) [] keys in
    if same_path q (path ++ index (elements_of path (tables_in ms)) ∷ []) then a_table else from q

-- the fact from a source
abbrev pub fact_from : List Mention → List Mention → Source → Option Fact
fact_from ms new (from q) = fact_at q ms
fact_from ms new (given q) = fact_at q new
fact_from ms new a_table = Some table
fact_from ms new nothing = None

abbrev pub new_mentions : Edit → List Mention
new_mentions (set path value) = mentions_of_value value
new_mentions (insert path value) = mentions_of_value value
new_mentions _ = []

-- The tree of the new document is that of the old one, changed as the edit says.
abbrev pub IsTreeOf : List Mention → Edit → List Mention → Type 0
IsTreeOf ms e new = (q : List Part) → fact_at q new ≡ fact_from ms (new_mentions e) (source ms e q)
