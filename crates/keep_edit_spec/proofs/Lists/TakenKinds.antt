-- What is shown of two edits, one of which removes a table or an element with its header: the second makes its change
-- after the first made its own beside it.
use Rattle.keep_edit_spec.specs.AddedLines.{AddsLine, AddsLineStill, first_new}
use Rattle.keep_edit_spec.specs.AppendedHeaders.{AppendsElement, AppendsTable}
use Rattle.keep_edit_spec.specs.BroughtHeaders.{BringsHeader, StillBrings}
use Rattle.keep_edit_spec.specs.ClearedLines.{ClearsLine}
use Rattle.keep_edit_spec.specs.DottedLines.{AddsDotted, AddsLineTo, StillAdds}
use Rattle.keep_edit_spec.specs.Edits.{append_element, append_table, edited_document, insert, remove, rename, set}
use Rattle.keep_edit_spec.specs.ElementRuns.{changed_path}
use Rattle.keep_edit_spec.specs.Laws.{IsEditable}
use Rattle.keep_edit_spec.specs.Lines.{newline_of}
use Rattle.keep_edit_spec.specs.RemovedHeaders.{RemovesHeader}
use Rattle.keep_edit_spec.specs.RemovedLines.{RemovesLine}
use Rattle.keep_edit_spec.specs.RenamedKeys.{RenamesKey}
use Rattle.keep_edit_spec.specs.Runs.{AreApart, PassesBy}
use Rattle.keep_edit_spec.specs.SetValues.{SetsValue}
use Rattle.keep_edit_spec.specs.TextChanges.{IsBeside, TextChange, moved}
use Rattle.keep_path.specs.Path.{Part, beside}
use Rattle.keep_syntax.specs.Tree.{Document, Value}
use Rattle.keep_types.specs.declared.leaf.Profile.{Profile}
use Rattle.std.specs.Prelude.{Bool, List, true, ℕ, ◌+◌, ◌≡◌, ◌≢◌}

-- ---- it goes, after another edit

abbrev pub TakenAfterSet : Type 0
TakenAfterSet =
    (profile : Profile) (limit : ℕ) (s : Document) (path : List Part) (value : Value) (c : TextChange)
    (other : List Part) (d : TextChange)
    → IsEditable profile limit s → SetsValue profile limit s path value c → RemovesHeader profile limit s other d
    → AreApart path other → IsBeside c d
    → RemovesHeader profile limit (edited_document s (set path value)) other (moved c d)

abbrev pub TakenAfterRename : Type 0
TakenAfterRename =
    (profile : Profile) (limit : ℕ) (s : Document) (path : List Part) (name : List ℕ) (c : TextChange)
    (other : List Part) (d : TextChange)
    → IsEditable profile limit s → RenamesKey profile limit s path name c → RemovesHeader profile limit s other d
    → AreApart path other → AreApart (beside path name) other → IsBeside c d
    → RemovesHeader profile limit (edited_document s (rename path name)) other (moved c d)

abbrev pub TakenAfterInsert : Type 0
TakenAfterInsert =
    (profile : Profile) (limit : ℕ) (s : Document) (path : List Part) (value : Value) (c : TextChange)
    (to : Bool) (other : List Part) (d : TextChange)
    → IsEditable profile limit s → AddsLineTo to profile limit s path value c → RemovesHeader profile limit s other d
    → AreApart (first_new s path) other → IsBeside c d
    → RemovesHeader profile limit (edited_document s (insert path value)) other (moved c d)

abbrev pub TakenAfterRemove : Type 0
TakenAfterRemove =
    (profile : Profile) (limit : ℕ) (s : Document) (path : List Part) (c : TextChange)
    (other : List Part) (d : TextChange)
    → IsEditable profile limit s → RemovesLine profile limit s path c → RemovesHeader profile limit s other d
    → AreApart path other → IsBeside c d
    → RemovesHeader profile limit (edited_document s (remove path)) other (moved c d)

abbrev pub TakenAfterClear : Type 0
TakenAfterClear =
    (profile : Profile) (limit : ℕ) (s : Document) (path : List Part) (c : TextChange)
    (other : List Part) (d : TextChange)
    → IsEditable profile limit s → ClearsLine profile limit s path c → RemovesHeader profile limit s other d
    → AreApart path other → IsBeside c d
    → RemovesHeader profile limit (edited_document s (remove path)) other (moved c d)

abbrev pub TakenAfterTable : Type 0
TakenAfterTable =
    (profile : Profile) (limit : ℕ) (s : Document) (keys : List (List ℕ)) (c : TextChange)
    (other : List Part) (d : TextChange)
    → IsEditable profile limit s → AppendsTable profile limit s keys c → RemovesHeader profile limit s other d
    → PassesBy keys other
    → RemovesHeader profile limit (edited_document s (append_table keys)) other (moved c d)

abbrev pub TakenAfterElement : Type 0
TakenAfterElement =
    (profile : Profile) (limit : ℕ) (s : Document) (keys : List (List ℕ)) (c : TextChange)
    (other : List Part) (d : TextChange)
    → IsEditable profile limit s → AppendsElement profile limit s keys c → RemovesHeader profile limit s other d
    → PassesBy keys other
    → RemovesHeader profile limit (edited_document s (append_element keys)) other (moved c d)

abbrev pub TakenAfterBrought : Type 0
TakenAfterBrought =
    (profile : Profile) (limit : ℕ) (s : Document) (path : List Part) (value : Value) (c : TextChange)
    (other : List Part) (d : TextChange)
    → IsEditable profile limit s → BringsHeader profile limit s path value c → RemovesHeader profile limit s other d
    → AreApart (first_new s path) other → IsBeside c d
    → RemovesHeader profile limit (edited_document s (insert path value)) other (moved c d)

-- ---- after it went

abbrev pub SetAfterTaken : Type 0
SetAfterTaken =
    (profile : Profile) (limit : ℕ) (s : Document) (path : List Part) (c : TextChange)
    (other : List Part) (more : Value) (d : TextChange)
    → IsEditable profile limit s → RemovesHeader profile limit s path c → SetsValue profile limit s other more d
    → AreApart (changed_path path) other → IsBeside c d
    → SetsValue profile limit (edited_document s (remove path)) other more (moved c d)

abbrev pub RenameAfterTaken : Type 0
RenameAfterTaken =
    (profile : Profile) (limit : ℕ) (s : Document) (path : List Part) (c : TextChange)
    (other : List Part) (text : List ℕ) (d : TextChange)
    → IsEditable profile limit s → RemovesHeader profile limit s path c → RenamesKey profile limit s other text d
    → AreApart (changed_path path) other → AreApart (changed_path path) (beside other text) → IsBeside c d
    → RenamesKey profile limit (edited_document s (remove path)) other text (moved c d)

abbrev pub InsertAfterTaken : Type 0
InsertAfterTaken =
    (profile : Profile) (limit : ℕ) (s : Document) (path : List Part) (c : TextChange)
    (other : List Part) (more : Value) (d : TextChange)
    → IsEditable profile limit s → RemovesHeader profile limit s path c → AddsLine profile limit s other more d
    → AreApart (changed_path path) (first_new s other) → IsBeside c d
    → newline_of (edited_document s (remove path)) ≡ newline_of s
    → AddsLineStill profile limit s (edited_document s (remove path)) other more (moved c d)

abbrev pub RemoveAfterTaken : Type 0
RemoveAfterTaken =
    (profile : Profile) (limit : ℕ) (s : Document) (path : List Part) (c : TextChange)
    (other : List Part) (d : TextChange)
    → IsEditable profile limit s → RemovesHeader profile limit s path c → RemovesLine profile limit s other d
    → AreApart (changed_path path) other → IsBeside c d
    → RemovesLine profile limit (edited_document s (remove path)) other (moved c d)

abbrev pub ClearAfterTaken : Type 0
ClearAfterTaken =
    (profile : Profile) (limit : ℕ) (s : Document) (path : List Part) (c : TextChange)
    (other : List Part) (d : TextChange)
    → IsEditable profile limit s → RemovesHeader profile limit s path c → ClearsLine profile limit s other d
    → AreApart (changed_path path) other → IsBeside c d
    → ClearsLine profile limit (edited_document s (remove path)) other (moved c d)

abbrev pub TableAfterTaken : Type 0
TableAfterTaken =
    (profile : Profile) (limit : ℕ) (s : Document) (path : List Part) (c : TextChange)
    (more : List (List ℕ)) (d : TextChange)
    → IsEditable profile limit s → RemovesHeader profile limit s path c → AppendsTable profile limit s more d
    → PassesBy more (changed_path path)
    → newline_of (edited_document s (remove path)) ≡ newline_of s → c.at + c.size ≢ d.at
    → AppendsTable profile limit (edited_document s (remove path)) more (moved c d)

abbrev pub ElementAfterTaken : Type 0
ElementAfterTaken =
    (profile : Profile) (limit : ℕ) (s : Document) (path : List Part) (c : TextChange)
    (more : List (List ℕ)) (d : TextChange)
    → IsEditable profile limit s → RemovesHeader profile limit s path c → AppendsElement profile limit s more d
    → PassesBy more (changed_path path)
    → newline_of (edited_document s (remove path)) ≡ newline_of s → c.at + c.size ≢ d.at
    → AppendsElement profile limit (edited_document s (remove path)) more (moved c d)

abbrev pub DottedAfterTaken : Type 0
DottedAfterTaken =
    (profile : Profile) (limit : ℕ) (s : Document) (path : List Part) (c : TextChange)
    (other : List Part) (more : Value) (d : TextChange)
    → IsEditable profile limit s → RemovesHeader profile limit s path c → AddsDotted profile limit s other more d
    → AreApart (changed_path path) (first_new s other) → IsBeside c d
    → newline_of (edited_document s (remove path)) ≡ newline_of s → c.at + c.size ≢ d.at
    → StillAdds true profile limit s (edited_document s (remove path)) other more (moved c d)

abbrev pub DottedBeforeTaken : Type 0
DottedBeforeTaken =
    (profile : Profile) (limit : ℕ) (s : Document) (path : List Part) (c : TextChange)
    (other : List Part) (more : Value) (d : TextChange)
    → IsEditable profile limit s → RemovesHeader profile limit s path c → AddsDotted profile limit s other more d
    → AreApart (changed_path path) (first_new s other) → c.at ≡ d.at
    → newline_of (edited_document s (remove path)) ≡ newline_of s
    → StillAdds true profile limit s (edited_document s (remove path)) other more d

abbrev pub BroughtAfterTaken : Type 0
BroughtAfterTaken =
    (profile : Profile) (limit : ℕ) (s : Document) (path : List Part) (c : TextChange)
    (other : List Part) (more : Value) (d : TextChange)
    → IsEditable profile limit s → RemovesHeader profile limit s path c → BringsHeader profile limit s other more d
    → AreApart (changed_path path) (first_new s other) → IsBeside c d
    → newline_of (edited_document s (remove path)) ≡ newline_of s → c.at + c.size ≢ d.at
    → StillBrings profile limit s (edited_document s (remove path)) other more (moved c d)
