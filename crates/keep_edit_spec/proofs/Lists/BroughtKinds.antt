-- What is shown of two edits, one of which is an insert that brings the header of its table: the second makes its
-- change after the first made its own beside it.
use Rattle.std.specs.Prelude.{◌≡◌, ◌≢◌, ℕ, ◌+◌, Bool, true, List}
use Rattle.keep_types.specs.declared.leaf.Profile.{Profile}
use Rattle.keep_syntax.specs.Tree.{Document, Value}
use Rattle.keep_path.specs.Path.{Part, beside}
use Rattle.keep_meaning.specs.Meaning.{mentions_in}
use Rattle.keep_edit_spec.specs.AddedLines.{AddsLine, AddsLineStill, first_new}
use Rattle.keep_edit_spec.specs.AppendedHeaders.{AppendsElement, AppendsTable}
use Rattle.keep_edit_spec.specs.BroughtHeaders.{BringsHeader, StillBrings}
use Rattle.keep_edit_spec.specs.ClearedLines.{ClearsLine}
use Rattle.keep_edit_spec.specs.DottedLines.{AddsDotted, AddsLineTo, StillAdds}
use Rattle.keep_edit_spec.specs.Edits.{append_element, append_table, edited_document, insert, remove, rename, set}
use Rattle.keep_edit_spec.specs.Laws.{IsEditable}
use Rattle.keep_edit_spec.specs.Lines.{newline_of}
use Rattle.keep_edit_spec.specs.Look.{holder, keys_in}
use Rattle.keep_edit_spec.specs.RemovedLines.{RemovesLine}
use Rattle.keep_edit_spec.specs.RenamedKeys.{RenamesKey}
use Rattle.keep_edit_spec.specs.Runs.{AreApart, PassesBy}
use Rattle.keep_edit_spec.specs.SetValues.{SetsValue}
use Rattle.keep_edit_spec.specs.TextChanges.{IsBeside, TextChange, moved}

-- ---- after a header came

abbrev pub SetAfterBrought : Type 0
SetAfterBrought =
    (profile : Profile) (limit : ℕ) (s : Document) (path : List Part) (value : Value) (c : TextChange)
    (other : List Part) (more : Value) (d : TextChange)
    → IsEditable profile limit s → BringsHeader profile limit s path value c → SetsValue profile limit s other more d
    → AreApart (first_new s path) other → IsBeside c d
    → SetsValue profile limit (edited_document s (insert path value)) other more (moved c d)

abbrev pub RenameAfterBrought : Type 0
RenameAfterBrought =
    (profile : Profile) (limit : ℕ) (s : Document) (path : List Part) (value : Value) (c : TextChange)
    (other : List Part) (text : List ℕ) (d : TextChange)
    → IsEditable profile limit s → BringsHeader profile limit s path value c → RenamesKey profile limit s other text d
    → AreApart (first_new s path) other → AreApart (first_new s path) (beside other text) → IsBeside c d
    → RenamesKey profile limit (edited_document s (insert path value)) other text (moved c d)

abbrev pub RemoveAfterBrought : Type 0
RemoveAfterBrought =
    (profile : Profile) (limit : ℕ) (s : Document) (path : List Part) (value : Value) (c : TextChange)
    (other : List Part) (d : TextChange)
    → IsEditable profile limit s → BringsHeader profile limit s path value c → RemovesLine profile limit s other d
    → AreApart (first_new s path) other → IsBeside c d
    → RemovesLine profile limit (edited_document s (insert path value)) other (moved c d)

abbrev pub ClearAfterBrought : Type 0
ClearAfterBrought =
    (profile : Profile) (limit : ℕ) (s : Document) (path : List Part) (value : Value) (c : TextChange)
    (other : List Part) (d : TextChange)
    → IsEditable profile limit s → BringsHeader profile limit s path value c → ClearsLine profile limit s other d
    → AreApart (first_new s path) other → IsBeside c d
    → ClearsLine profile limit (edited_document s (insert path value)) other (moved c d)

abbrev pub TableAfterBrought : Type 0
TableAfterBrought =
    (profile : Profile) (limit : ℕ) (s : Document) (path : List Part) (value : Value) (c : TextChange)
    (more : List (List ℕ)) (d : TextChange)
    → IsEditable profile limit s → BringsHeader profile limit s path value c → AppendsTable profile limit s more d
    → PassesBy more (first_new s path) → more ≢ keys_in (holder path (mentions_in s))
    → newline_of (edited_document s (insert path value)) ≡ newline_of s
    → AppendsTable profile limit (edited_document s (insert path value)) more (moved c d)

abbrev pub ElementAfterBrought : Type 0
ElementAfterBrought =
    (profile : Profile) (limit : ℕ) (s : Document) (path : List Part) (value : Value) (c : TextChange)
    (more : List (List ℕ)) (d : TextChange)
    → IsEditable profile limit s → BringsHeader profile limit s path value c → AppendsElement profile limit s more d
    → PassesBy more (first_new s path) → more ≢ keys_in (holder path (mentions_in s))
    → newline_of (edited_document s (insert path value)) ≡ newline_of s
    → AppendsElement profile limit (edited_document s (insert path value)) more (moved c d)

abbrev pub LineAfterBrought : Type 0
LineAfterBrought =
    (profile : Profile) (limit : ℕ) (s : Document) (path : List Part) (value : Value) (c : TextChange)
    (other : List Part) (more : Value) (d : TextChange)
    → IsEditable profile limit s → BringsHeader profile limit s path value c → AddsLine profile limit s other more d
    → first_new s path ≢ first_new s other → c.at ≢ d.at
    → AddsLineStill profile limit s (edited_document s (insert path value)) other more (moved c d)

abbrev pub DottedAfterBrought : Type 0
DottedAfterBrought =
    (profile : Profile) (limit : ℕ) (s : Document) (path : List Part) (value : Value) (c : TextChange)
    (other : List Part) (more : Value) (d : TextChange)
    → IsEditable profile limit s → BringsHeader profile limit s path value c → AddsDotted profile limit s other more d
    → first_new s path ≢ first_new s other → c.at ≢ d.at
    → StillAdds true profile limit s (edited_document s (insert path value)) other more (moved c d)

-- ---- a header comes after another edit

abbrev pub BroughtAfterSet : Type 0
BroughtAfterSet =
    (profile : Profile) (limit : ℕ) (s : Document) (path : List Part) (value : Value) (c : TextChange)
    (other : List Part) (more : Value) (d : TextChange)
    → IsEditable profile limit s → SetsValue profile limit s path value c → BringsHeader profile limit s other more d
    → AreApart path (first_new s other) → IsBeside c d
    → newline_of (edited_document s (set path value)) ≡ newline_of s → c.at + c.size ≢ d.at
    → StillBrings profile limit s (edited_document s (set path value)) other more (moved c d)

abbrev pub BroughtAfterRename : Type 0
BroughtAfterRename =
    (profile : Profile) (limit : ℕ) (s : Document) (path : List Part) (name : List ℕ) (c : TextChange)
    (other : List Part) (more : Value) (d : TextChange)
    → IsEditable profile limit s → RenamesKey profile limit s path name c → BringsHeader profile limit s other more d
    → AreApart path (first_new s other) → AreApart (beside path name) (first_new s other) → IsBeside c d
    → newline_of (edited_document s (rename path name)) ≡ newline_of s → c.at + c.size ≢ d.at
    → StillBrings profile limit s (edited_document s (rename path name)) other more (moved c d)

abbrev pub BroughtAfterRemove : Type 0
BroughtAfterRemove =
    (profile : Profile) (limit : ℕ) (s : Document) (path : List Part) (c : TextChange)
    (other : List Part) (more : Value) (d : TextChange)
    → IsEditable profile limit s → RemovesLine profile limit s path c → BringsHeader profile limit s other more d
    → AreApart path (first_new s other) → IsBeside c d
    → newline_of (edited_document s (remove path)) ≡ newline_of s → c.at + c.size ≢ d.at
    → StillBrings profile limit s (edited_document s (remove path)) other more (moved c d)

abbrev pub BroughtAfterClear : Type 0
BroughtAfterClear =
    (profile : Profile) (limit : ℕ) (s : Document) (path : List Part) (c : TextChange)
    (other : List Part) (more : Value) (d : TextChange)
    → IsEditable profile limit s → ClearsLine profile limit s path c → BringsHeader profile limit s other more d
    → AreApart path (first_new s other) → IsBeside c d
    → newline_of (edited_document s (remove path)) ≡ newline_of s → c.at + c.size ≢ d.at
    → StillBrings profile limit s (edited_document s (remove path)) other more (moved c d)

abbrev pub BroughtAfterTable : Type 0
BroughtAfterTable =
    (profile : Profile) (limit : ℕ) (s : Document) (keys : List (List ℕ)) (c : TextChange)
    (other : List Part) (more : Value) (d : TextChange)
    → IsEditable profile limit s → AppendsTable profile limit s keys c → BringsHeader profile limit s other more d
    → PassesBy keys (first_new s other) → PassesBy keys (holder other (mentions_in s)) → c.at ≢ d.at
    → newline_of (edited_document s (append_table keys)) ≡ newline_of s
    → StillBrings profile limit s (edited_document s (append_table keys)) other more (moved c d)

abbrev pub BroughtAfterElement : Type 0
BroughtAfterElement =
    (profile : Profile) (limit : ℕ) (s : Document) (keys : List (List ℕ)) (c : TextChange)
    (other : List Part) (more : Value) (d : TextChange)
    → IsEditable profile limit s → AppendsElement profile limit s keys c → BringsHeader profile limit s other more d
    → PassesBy keys (first_new s other) → PassesBy keys (holder other (mentions_in s)) → c.at ≢ d.at
    → newline_of (edited_document s (append_element keys)) ≡ newline_of s
    → StillBrings profile limit s (edited_document s (append_element keys)) other more (moved c d)

abbrev pub BroughtAfterLine : Type 0
BroughtAfterLine =
    (profile : Profile) (limit : ℕ) (s : Document) (path : List Part) (value : Value) (c : TextChange) (to : Bool)
    (other : List Part) (more : Value) (d : TextChange)
    → IsEditable profile limit s → AddsLineTo to profile limit s path value c
    → BringsHeader profile limit s other more d → first_new s path ≢ first_new s other
    → StillBrings profile limit s (edited_document s (insert path value)) other more (moved c d)
