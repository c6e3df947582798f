-- What is shown of two edits of two kinds: the second makes its change after the first made its own beside it.
use Rattle.std.specs.Prelude.{◌≡◌, ◌≢◌, ℕ, Bool, ◌+◌, List, map}
use Rattle.keep_types.specs.declared.leaf.Profile.{Profile}
use Rattle.keep_syntax.specs.Tree.{Document, Value, text}
use Rattle.keep_path.specs.Path.{Part, beside, key}
use Rattle.keep_edit_spec.specs.AddedLines.{AddsLine, AddsLineStill, first_new}
use Rattle.keep_edit_spec.specs.AppendedHeaders.{AppendsElement, AppendsTable}
use Rattle.keep_edit_spec.specs.DottedLines.{AddsLineTo}
use Rattle.keep_edit_spec.specs.Edits.{append_element, append_table, edited_document, insert, remove, rename, set}
use Rattle.keep_edit_spec.specs.Laws.{IsEditable}
use Rattle.keep_edit_spec.specs.Lines.{newline_of}
use Rattle.keep_edit_spec.specs.RemovedLines.{RemovesLine}
use Rattle.keep_edit_spec.specs.RenamedKeys.{RenamesKey}
use Rattle.keep_edit_spec.specs.Runs.{AreApart, PassesBy}
use Rattle.keep_edit_spec.specs.SaidLines.{SaysBefore}
use Rattle.keep_edit_spec.specs.SetValues.{SetsValue}
use Rattle.keep_edit_spec.specs.TextChanges.{IsBeside, TextChange, moved}

abbrev pub RemoveAfterSet : Type 0
RemoveAfterSet =
    (profile : Profile) (limit : ℕ) (s : Document) (path : List Part) (value : Value) (c : TextChange)
    (other : List Part) (d : TextChange)
    → IsEditable profile limit s → SetsValue profile limit s path value c → RemovesLine profile limit s other d
    → AreApart path other → IsBeside c d
    → RemovesLine profile limit (edited_document s (set path value)) other (moved c d)

abbrev pub InsertAfterSet : Type 0
InsertAfterSet =
    (profile : Profile) (limit : ℕ) (s : Document) (path : List Part) (value : Value) (c : TextChange)
    (other : List Part) (more : Value) (d : TextChange)
    → IsEditable profile limit s → SetsValue profile limit s path value c → AddsLine profile limit s other more d
    → AreApart path (first_new s other) → IsBeside c d
    → newline_of (edited_document s (set path value)) ≡ newline_of s → c.at + c.size ≢ d.at
    → AddsLineStill profile limit s (edited_document s (set path value)) other more (moved c d)

abbrev pub RenameAfterSet : Type 0
RenameAfterSet =
    (profile : Profile) (limit : ℕ) (s : Document) (path : List Part) (value : Value) (c : TextChange)
    (other : List Part) (text : List ℕ) (d : TextChange)
    → IsEditable profile limit s → SetsValue profile limit s path value c → RenamesKey profile limit s other text d
    → AreApart path other → AreApart path (beside other text) → IsBeside c d
    → RenamesKey profile limit (edited_document s (set path value)) other text (moved c d)

abbrev pub SetAfterRemove : Type 0
SetAfterRemove =
    (profile : Profile) (limit : ℕ) (s : Document) (path : List Part) (c : TextChange)
    (other : List Part) (more : Value) (d : TextChange)
    → IsEditable profile limit s → RemovesLine profile limit s path c → SetsValue profile limit s other more d
    → AreApart path other → IsBeside c d
    → SetsValue profile limit (edited_document s (remove path)) other more (moved c d)

abbrev pub InsertAfterRemove : Type 0
InsertAfterRemove =
    (profile : Profile) (limit : ℕ) (s : Document) (path : List Part) (c : TextChange)
    (other : List Part) (more : Value) (d : TextChange)
    → IsEditable profile limit s → RemovesLine profile limit s path c → AddsLine profile limit s other more d
    → AreApart path (first_new s other) → IsBeside c d
    → newline_of (edited_document s (remove path)) ≡ newline_of s → c.at + c.size ≢ d.at
    → AddsLineStill profile limit s (edited_document s (remove path)) other more (moved c d)

-- the line comes in the place of the one that is taken
abbrev pub InsertInPlace : Type 0
InsertInPlace =
    (profile : Profile) (limit : ℕ) (s : Document) (path : List Part) (c : TextChange)
    (other : List Part) (more : Value) (d : TextChange)
    → IsEditable profile limit s → RemovesLine profile limit s path c → AddsLine profile limit s other more d
    → AreApart path (first_new s other) → newline_of (edited_document s (remove path)) ≡ newline_of s
    → c.at + c.size ≡ d.at → SaysBefore (text s) c.at
    → AddsLineStill profile limit s (edited_document s (remove path)) other more (moved c d)

abbrev pub RenameAfterRemove : Type 0
RenameAfterRemove =
    (profile : Profile) (limit : ℕ) (s : Document) (path : List Part) (c : TextChange)
    (other : List Part) (text : List ℕ) (d : TextChange)
    → IsEditable profile limit s → RemovesLine profile limit s path c → RenamesKey profile limit s other text d
    → AreApart path other → AreApart path (beside other text) → IsBeside c d
    → RenamesKey profile limit (edited_document s (remove path)) other text (moved c d)

abbrev pub SetAfterInsert : Type 0
SetAfterInsert =
    (profile : Profile) (limit : ℕ) (s : Document) (path : List Part) (value : Value) (c : TextChange)
    (to : Bool) (other : List Part) (more : Value) (d : TextChange)
    → IsEditable profile limit s → AddsLineTo to profile limit s path value c → SetsValue profile limit s other more d
    → AreApart (first_new s path) other → IsBeside c d
    → SetsValue profile limit (edited_document s (insert path value)) other more (moved c d)

abbrev pub RemoveAfterInsert : Type 0
RemoveAfterInsert =
    (profile : Profile) (limit : ℕ) (s : Document) (path : List Part) (value : Value) (c : TextChange)
    (to : Bool) (other : List Part) (d : TextChange)
    → IsEditable profile limit s → AddsLineTo to profile limit s path value c → RemovesLine profile limit s other d
    → AreApart (first_new s path) other → IsBeside c d
    → RemovesLine profile limit (edited_document s (insert path value)) other (moved c d)

abbrev pub RenameAfterInsert : Type 0
RenameAfterInsert =
    (profile : Profile) (limit : ℕ) (s : Document) (path : List Part) (value : Value) (c : TextChange)
    (to : Bool) (other : List Part) (text : List ℕ) (d : TextChange)
    → IsEditable profile limit s → AddsLineTo to profile limit s path value c → RenamesKey profile limit s other text d
    → AreApart (first_new s path) other → AreApart (first_new s path) (beside other text) → IsBeside c d
    → RenamesKey profile limit (edited_document s (insert path value)) other text (moved c d)

abbrev pub SetAfterRename : Type 0
SetAfterRename =
    (profile : Profile) (limit : ℕ) (s : Document) (path : List Part) (name : List ℕ) (c : TextChange)
    (other : List Part) (more : Value) (d : TextChange)
    → IsEditable profile limit s → RenamesKey profile limit s path name c → SetsValue profile limit s other more d
    → AreApart path other → AreApart (beside path name) other → IsBeside c d
    → SetsValue profile limit (edited_document s (rename path name)) other more (moved c d)

abbrev pub RemoveAfterRename : Type 0
RemoveAfterRename =
    (profile : Profile) (limit : ℕ) (s : Document) (path : List Part) (name : List ℕ) (c : TextChange)
    (other : List Part) (d : TextChange)
    → IsEditable profile limit s → RenamesKey profile limit s path name c → RemovesLine profile limit s other d
    → AreApart path other → AreApart (beside path name) other → IsBeside c d
    → RemovesLine profile limit (edited_document s (rename path name)) other (moved c d)

abbrev pub InsertAfterRename : Type 0
InsertAfterRename =
    (profile : Profile) (limit : ℕ) (s : Document) (path : List Part) (name : List ℕ) (c : TextChange)
    (other : List Part) (more : Value) (d : TextChange)
    → IsEditable profile limit s → RenamesKey profile limit s path name c → AddsLine profile limit s other more d
    → AreApart path (first_new s other) → AreApart (beside path name) (first_new s other) → IsBeside c d
    → newline_of (edited_document s (rename path name)) ≡ newline_of s → c.at + c.size ≢ d.at
    → AddsLineStill profile limit s (edited_document s (rename path name)) other more (moved c d)

-- ---- headers

abbrev pub SetAfterTable : Type 0
SetAfterTable =
    (profile : Profile) (limit : ℕ) (s : Document) (keys : List (List ℕ)) (c : TextChange)
    (other : List Part) (more : Value) (d : TextChange)
    → IsEditable profile limit s → AppendsTable profile limit s keys c → SetsValue profile limit s other more d
    → PassesBy keys other
    → SetsValue profile limit (edited_document s (append_table keys)) other more (moved c d)

abbrev pub SetAfterElement : Type 0
SetAfterElement =
    (profile : Profile) (limit : ℕ) (s : Document) (keys : List (List ℕ)) (c : TextChange)
    (other : List Part) (more : Value) (d : TextChange)
    → IsEditable profile limit s → AppendsElement profile limit s keys c → SetsValue profile limit s other more d
    → PassesBy keys other
    → SetsValue profile limit (edited_document s (append_element keys)) other more (moved c d)

abbrev pub RemoveAfterTable : Type 0
RemoveAfterTable =
    (profile : Profile) (limit : ℕ) (s : Document) (keys : List (List ℕ)) (c : TextChange)
    (other : List Part) (d : TextChange)
    → IsEditable profile limit s → AppendsTable profile limit s keys c → RemovesLine profile limit s other d
    → RemovesLine profile limit (edited_document s (append_table keys)) other (moved c d)

abbrev pub RemoveAfterElement : Type 0
RemoveAfterElement =
    (profile : Profile) (limit : ℕ) (s : Document) (keys : List (List ℕ)) (c : TextChange)
    (other : List Part) (d : TextChange)
    → IsEditable profile limit s → AppendsElement profile limit s keys c → RemovesLine profile limit s other d
    → RemovesLine profile limit (edited_document s (append_element keys)) other (moved c d)

abbrev pub RenameAfterTable : Type 0
RenameAfterTable =
    (profile : Profile) (limit : ℕ) (s : Document) (keys : List (List ℕ)) (c : TextChange)
    (other : List Part) (text : List ℕ) (d : TextChange)
    → IsEditable profile limit s → AppendsTable profile limit s keys c → RenamesKey profile limit s other text d
    → PassesBy keys other → PassesBy keys (beside other text)
    → RenamesKey profile limit (edited_document s (append_table keys)) other text (moved c d)

abbrev pub RenameAfterElement : Type 0
RenameAfterElement =
    (profile : Profile) (limit : ℕ) (s : Document) (keys : List (List ℕ)) (c : TextChange)
    (other : List Part) (text : List ℕ) (d : TextChange)
    → IsEditable profile limit s → AppendsElement profile limit s keys c → RenamesKey profile limit s other text d
    → PassesBy keys other → PassesBy keys (beside other text)
    → RenamesKey profile limit (edited_document s (append_element keys)) other text (moved c d)

abbrev pub TableAfterSet : Type 0
TableAfterSet =
    (profile : Profile) (limit : ℕ) (s : Document) (path : List Part) (value : Value) (c : TextChange)
    (more : List (List ℕ)) (d : TextChange)
    → IsEditable profile limit s → SetsValue profile limit s path value c → AppendsTable profile limit s more d
    → PassesBy more path → newline_of (edited_document s (set path value)) ≡ newline_of s
    → c.at + c.size ≢ d.at
    → AppendsTable profile limit (edited_document s (set path value)) more (moved c d)

abbrev pub ElementAfterSet : Type 0
ElementAfterSet =
    (profile : Profile) (limit : ℕ) (s : Document) (path : List Part) (value : Value) (c : TextChange)
    (more : List (List ℕ)) (d : TextChange)
    → IsEditable profile limit s → SetsValue profile limit s path value c → AppendsElement profile limit s more d
    → PassesBy more path → newline_of (edited_document s (set path value)) ≡ newline_of s
    → c.at + c.size ≢ d.at
    → AppendsElement profile limit (edited_document s (set path value)) more (moved c d)

abbrev pub TableAfterRemove : Type 0
TableAfterRemove =
    (profile : Profile) (limit : ℕ) (s : Document) (path : List Part) (c : TextChange)
    (more : List (List ℕ)) (d : TextChange)
    → IsEditable profile limit s → RemovesLine profile limit s path c → AppendsTable profile limit s more d
    → newline_of (edited_document s (remove path)) ≡ newline_of s → c.at + c.size ≢ d.at
    → AppendsTable profile limit (edited_document s (remove path)) more (moved c d)

abbrev pub ElementAfterRemove : Type 0
ElementAfterRemove =
    (profile : Profile) (limit : ℕ) (s : Document) (path : List Part) (c : TextChange)
    (more : List (List ℕ)) (d : TextChange)
    → IsEditable profile limit s → RemovesLine profile limit s path c → AppendsElement profile limit s more d
    → newline_of (edited_document s (remove path)) ≡ newline_of s → c.at + c.size ≢ d.at
    → AppendsElement profile limit (edited_document s (remove path)) more (moved c d)

abbrev pub TableAfterInsert : Type 0
TableAfterInsert =
    (profile : Profile) (limit : ℕ) (s : Document) (path : List Part) (value : Value) (c : TextChange)
    (to : Bool) (more : List (List ℕ)) (d : TextChange)
    → IsEditable profile limit s → AddsLineTo to profile limit s path value c → AppendsTable profile limit s more d
    → PassesBy more (first_new s path) → newline_of (edited_document s (insert path value)) ≡ newline_of s
    → AppendsTable profile limit (edited_document s (insert path value)) more (moved c d)

abbrev pub ElementAfterInsert : Type 0
ElementAfterInsert =
    (profile : Profile) (limit : ℕ) (s : Document) (path : List Part) (value : Value) (c : TextChange)
    (to : Bool) (more : List (List ℕ)) (d : TextChange)
    → IsEditable profile limit s → AddsLineTo to profile limit s path value c → AppendsElement profile limit s more d
    → PassesBy more (first_new s path) → newline_of (edited_document s (insert path value)) ≡ newline_of s
    → AppendsElement profile limit (edited_document s (insert path value)) more (moved c d)

abbrev pub TableAfterRename : Type 0
TableAfterRename =
    (profile : Profile) (limit : ℕ) (s : Document) (path : List Part) (name : List ℕ) (c : TextChange)
    (more : List (List ℕ)) (d : TextChange)
    → IsEditable profile limit s → RenamesKey profile limit s path name c → AppendsTable profile limit s more d
    → PassesBy more path → PassesBy more (beside path name)
    → newline_of (edited_document s (rename path name)) ≡ newline_of s → c.at + c.size ≢ d.at
    → AppendsTable profile limit (edited_document s (rename path name)) more (moved c d)

abbrev pub ElementAfterRename : Type 0
ElementAfterRename =
    (profile : Profile) (limit : ℕ) (s : Document) (path : List Part) (name : List ℕ) (c : TextChange)
    (more : List (List ℕ)) (d : TextChange)
    → IsEditable profile limit s → RenamesKey profile limit s path name c → AppendsElement profile limit s more d
    → PassesBy more path → PassesBy more (beside path name)
    → newline_of (edited_document s (rename path name)) ≡ newline_of s → c.at + c.size ≢ d.at
    → AppendsElement profile limit (edited_document s (rename path name)) more (moved c d)

abbrev pub ElementAfterTable : Type 0
ElementAfterTable =
    (profile : Profile) (limit : ℕ) (s : Document) (keys : List (List ℕ)) (c : TextChange)
    (more : List (List ℕ)) (d : TextChange)
    → IsEditable profile limit s → AppendsTable profile limit s keys c → AppendsElement profile limit s more d
    → AreApart (map key keys) (map key more)
    → AppendsElement profile limit (edited_document s (append_table keys)) more (moved c d)

abbrev pub TableAfterElement : Type 0
TableAfterElement =
    (profile : Profile) (limit : ℕ) (s : Document) (keys : List (List ℕ)) (c : TextChange)
    (more : List (List ℕ)) (d : TextChange)
    → IsEditable profile limit s → AppendsElement profile limit s keys c → AppendsTable profile limit s more d
    → AreApart (map key keys) (map key more)
    → AppendsTable profile limit (edited_document s (append_element keys)) more (moved c d)

abbrev pub InsertAfterTable : Type 0
InsertAfterTable =
    (profile : Profile) (limit : ℕ) (s : Document) (keys : List (List ℕ)) (c : TextChange)
    (other : List Part) (more : Value) (d : TextChange)
    → IsEditable profile limit s → AppendsTable profile limit s keys c → AddsLine profile limit s other more d
    → PassesBy keys (first_new s other) → c.at ≢ d.at
    → newline_of (edited_document s (append_table keys)) ≡ newline_of s
    → AddsLineStill profile limit s (edited_document s (append_table keys)) other more (moved c d)

abbrev pub InsertAfterElement : Type 0
InsertAfterElement =
    (profile : Profile) (limit : ℕ) (s : Document) (keys : List (List ℕ)) (c : TextChange)
    (other : List Part) (more : Value) (d : TextChange)
    → IsEditable profile limit s → AppendsElement profile limit s keys c → AddsLine profile limit s other more d
    → PassesBy keys (first_new s other) → c.at ≢ d.at
    → newline_of (edited_document s (append_element keys)) ≡ newline_of s
    → AddsLineStill profile limit s (edited_document s (append_element keys)) other more (moved c d)
