-- What is shown of two edits, one of which leaves a line with its comment: the second makes its change after the first
-- made its own beside it.
use Rattle.std.specs.Prelude.{◌≡◌, ◌≢◌, ℕ, Bool, ◌+◌, List}
use Rattle.keep_types.specs.declared.leaf.Profile.{Profile}
use Rattle.keep_syntax.specs.Tree.{Document, Value}
use Rattle.keep_path.specs.Path.{Part, beside}
use Rattle.keep_edit_spec.specs.AddedLines.{AddsLine, AddsLineStill, first_new}
use Rattle.keep_edit_spec.specs.AppendedHeaders.{AppendsElement, AppendsTable}
use Rattle.keep_edit_spec.specs.ClearedLines.{ClearsLine}
use Rattle.keep_edit_spec.specs.DottedLines.{AddsLineTo}
use Rattle.keep_edit_spec.specs.Edits.{append_element, append_table, edited_document, insert, remove, rename, set}
use Rattle.keep_edit_spec.specs.Laws.{IsEditable}
use Rattle.keep_edit_spec.specs.Lines.{newline_of}
use Rattle.keep_edit_spec.specs.RemovedLines.{RemovesLine}
use Rattle.keep_edit_spec.specs.RenamedKeys.{RenamesKey}
use Rattle.keep_edit_spec.specs.Runs.{AreApart}
use Rattle.keep_edit_spec.specs.SetValues.{SetsValue}
use Rattle.keep_edit_spec.specs.TextChanges.{IsBeside, TextChange, moved}

abbrev pub SetAfterClear : Type 0
SetAfterClear =
    (profile : Profile) (limit : ℕ) (s : Document) (path : List Part) (c : TextChange)
    (other : List Part) (more : Value) (d : TextChange)
    → IsEditable profile limit s → ClearsLine profile limit s path c → SetsValue profile limit s other more d
    → AreApart path other → IsBeside c d
    → SetsValue profile limit (edited_document s (remove path)) other more (moved c d)

abbrev pub RenameAfterClear : Type 0
RenameAfterClear =
    (profile : Profile) (limit : ℕ) (s : Document) (path : List Part) (c : TextChange)
    (other : List Part) (text : List ℕ) (d : TextChange)
    → IsEditable profile limit s → ClearsLine profile limit s path c → RenamesKey profile limit s other text d
    → AreApart path other → AreApart path (beside other text) → IsBeside c d
    → RenamesKey profile limit (edited_document s (remove path)) other text (moved c d)

abbrev pub InsertAfterClear : Type 0
InsertAfterClear =
    (profile : Profile) (limit : ℕ) (s : Document) (path : List Part) (c : TextChange)
    (other : List Part) (more : Value) (d : TextChange)
    → IsEditable profile limit s → ClearsLine profile limit s path c → AddsLine profile limit s other more d
    → AreApart path (first_new s other) → IsBeside c d
    → newline_of (edited_document s (remove path)) ≡ newline_of s → c.at + c.size ≢ d.at
    → AddsLineStill profile limit s (edited_document s (remove path)) other more (moved c d)

abbrev pub RemoveAfterClear : Type 0
RemoveAfterClear =
    (profile : Profile) (limit : ℕ) (s : Document) (path : List Part) (c : TextChange)
    (other : List Part) (d : TextChange)
    → IsEditable profile limit s → ClearsLine profile limit s path c → RemovesLine profile limit s other d
    → path ≢ other → IsBeside c d
    → RemovesLine profile limit (edited_document s (remove path)) other (moved c d)

abbrev pub ClearAfterClear : Type 0
ClearAfterClear =
    (profile : Profile) (limit : ℕ) (s : Document) (path : List Part) (c : TextChange)
    (other : List Part) (d : TextChange)
    → IsEditable profile limit s → ClearsLine profile limit s path c → ClearsLine profile limit s other d
    → path ≢ other → IsBeside c d
    → ClearsLine profile limit (edited_document s (remove path)) other (moved c d)

abbrev pub TableAfterClear : Type 0
TableAfterClear =
    (profile : Profile) (limit : ℕ) (s : Document) (path : List Part) (c : TextChange)
    (more : List (List ℕ)) (d : TextChange)
    → IsEditable profile limit s → ClearsLine profile limit s path c → AppendsTable profile limit s more d
    → newline_of (edited_document s (remove path)) ≡ newline_of s → c.at + c.size ≢ d.at
    → AppendsTable profile limit (edited_document s (remove path)) more (moved c d)

abbrev pub ElementAfterClear : Type 0
ElementAfterClear =
    (profile : Profile) (limit : ℕ) (s : Document) (path : List Part) (c : TextChange)
    (more : List (List ℕ)) (d : TextChange)
    → IsEditable profile limit s → ClearsLine profile limit s path c → AppendsElement profile limit s more d
    → newline_of (edited_document s (remove path)) ≡ newline_of s → c.at + c.size ≢ d.at
    → AppendsElement profile limit (edited_document s (remove path)) more (moved c d)

abbrev pub ClearAfterSet : Type 0
ClearAfterSet =
    (profile : Profile) (limit : ℕ) (s : Document) (path : List Part) (value : Value) (c : TextChange)
    (other : List Part) (d : TextChange)
    → IsEditable profile limit s → SetsValue profile limit s path value c → ClearsLine profile limit s other d
    → AreApart path other → IsBeside c d
    → ClearsLine profile limit (edited_document s (set path value)) other (moved c d)

abbrev pub ClearAfterRename : Type 0
ClearAfterRename =
    (profile : Profile) (limit : ℕ) (s : Document) (path : List Part) (name : List ℕ) (c : TextChange)
    (other : List Part) (d : TextChange)
    → IsEditable profile limit s → RenamesKey profile limit s path name c → ClearsLine profile limit s other d
    → AreApart path other → AreApart (beside path name) other → IsBeside c d
    → ClearsLine profile limit (edited_document s (rename path name)) other (moved c d)

abbrev pub ClearAfterInsert : Type 0
ClearAfterInsert =
    (profile : Profile) (limit : ℕ) (s : Document) (path : List Part) (value : Value) (c : TextChange)
    (to : Bool) (other : List Part) (d : TextChange)
    → IsEditable profile limit s → AddsLineTo to profile limit s path value c → ClearsLine profile limit s other d
    → AreApart (first_new s path) other → IsBeside c d
    → ClearsLine profile limit (edited_document s (insert path value)) other (moved c d)

abbrev pub ClearAfterRemove : Type 0
ClearAfterRemove =
    (profile : Profile) (limit : ℕ) (s : Document) (path : List Part) (c : TextChange)
    (other : List Part) (d : TextChange)
    → IsEditable profile limit s → RemovesLine profile limit s path c → ClearsLine profile limit s other d
    → path ≢ other → IsBeside c d
    → ClearsLine profile limit (edited_document s (remove path)) other (moved c d)

abbrev pub ClearAfterTable : Type 0
ClearAfterTable =
    (profile : Profile) (limit : ℕ) (s : Document) (keys : List (List ℕ)) (c : TextChange)
    (other : List Part) (d : TextChange)
    → IsEditable profile limit s → AppendsTable profile limit s keys c → ClearsLine profile limit s other d
    → ClearsLine profile limit (edited_document s (append_table keys)) other (moved c d)

abbrev pub ClearAfterElement : Type 0
ClearAfterElement =
    (profile : Profile) (limit : ℕ) (s : Document) (keys : List (List ℕ)) (c : TextChange)
    (other : List Part) (d : TextChange)
    → IsEditable profile limit s → AppendsElement profile limit s keys c → ClearsLine profile limit s other d
    → ClearsLine profile limit (edited_document s (append_element keys)) other (moved c d)
