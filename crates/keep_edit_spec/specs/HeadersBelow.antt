-- Inserts that bring the headers of their tables at the end of the text: below a header that was appended there and
-- goes through the table, and before what comes there later.
use Rattle.std.specs.Prelude.{◌≡◌, ℕ, ◌+◌, List, ◌∷◌, ◌++◌, None, length, map}
use Rattle.keep_types.specs.declared.leaf.Profile.{Profile}
use Rattle.keep_syntax.specs.Tree.{Document, Value}
use Rattle.keep_path.specs.Path.{Part, key, strip}
use Rattle.keep_meaning.specs.Meaning.{mentions_in}
use Rattle.keep_edit_spec.specs.AddedLines.{first_new}
use Rattle.keep_edit_spec.specs.AppendedHeaders.{AppendsElement, AppendsTable}
use Rattle.keep_edit_spec.specs.BroughtHeaders.{BringsHeader, StillBrings}
use Rattle.keep_edit_spec.specs.Edits.{append_element, append_table, edited_document, insert}
use Rattle.keep_edit_spec.specs.Laws.{IsEditable}
use Rattle.keep_edit_spec.specs.Look.{holder}
use Rattle.keep_edit_spec.specs.Runs.{PassesBy}
use Rattle.keep_edit_spec.specs.TextChanges.{TextChange, change_at}

-- A header of these keys goes through the table: its keys are those of the table's path, and more.
abbrev pub GoThrough : List (List ℕ) → List Part → Type 0
GoThrough keys table = (k : List ℕ) × ((ks : List (List ℕ)) × (map key keys ≡ table ++ map key (k ∷ ks)))

-- An insert that brings the header of its table brings it at the end of the text after a header was appended there that
-- goes through the table and passes by the insert's path.
abbrev pub StillBringsBelowTable : Type 0
StillBringsBelowTable =
    (profile : Profile) (limit : ℕ) (s : Document) (keys : List (List ℕ)) (c : TextChange)
    (other : List Part) (more : Value) (d : TextChange)
    → IsEditable profile limit s → AppendsTable profile limit s keys c → BringsHeader profile limit s other more d
    → PassesBy keys (first_new s other) → GoThrough keys (holder other (mentions_in s))
    → StillBrings profile limit s (edited_document s (append_table keys)) other more
    (change_at (c.at + length c.new) 0 d.new)

abbrev pub StillBringsBelowElement : Type 0
StillBringsBelowElement =
    (profile : Profile) (limit : ℕ) (s : Document) (keys : List (List ℕ)) (c : TextChange)
    (other : List Part) (more : Value) (d : TextChange)
    → IsEditable profile limit s → AppendsElement profile limit s keys c → BringsHeader profile limit s other more d
    → PassesBy keys (first_new s other) → GoThrough keys (holder other (mentions_in s))
    → StillBrings profile limit s (edited_document s (append_element keys)) other more
    (change_at (c.at + length c.new) 0 d.new)

-- It brings the same one, at the same byte, after another insert brought the header of another table there, which
-- does not go through this one.
abbrev pub StillBringsAhead : Type 0
StillBringsAhead =
    (profile : Profile) (limit : ℕ) (s : Document) (path : List Part) (value : Value) (c : TextChange)
    (other : List Part) (more : Value) (d : TextChange)
    → IsEditable profile limit s → BringsHeader profile limit s path value c
    → BringsHeader profile limit s other more d
    → strip (holder other (mentions_in s)) (holder path (mentions_in s)) ≡ None → c.at ≡ d.at
    → StillBrings profile limit s (edited_document s (insert path value)) other more d
