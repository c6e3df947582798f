-- What is shown of an insert that adds a line to a table which dotted keys make, after an edit of another kind: it adds
-- the same one, after the same line, if that edit made its change elsewhere and not right before it; and right before
-- the bytes that an edit of what is there takes from that place on.
use Rattle.std.specs.Prelude.{◌≡◌, ◌≢◌, ℕ, ◌+◌, true, List}
use Rattle.keep_types.specs.declared.leaf.Profile.{Profile}
use Rattle.keep_syntax.specs.Tree.{Document, Value}
use Rattle.keep_path.specs.Path.{Part, beside}
use Rattle.keep_edit_spec.specs.AddedLines.{first_new}
use Rattle.keep_edit_spec.specs.AppendedHeaders.{AppendsElement, AppendsTable}
use Rattle.keep_edit_spec.specs.ClearedLines.{ClearsLine}
use Rattle.keep_edit_spec.specs.DottedLines.{AddsDotted, StillAdds}
use Rattle.keep_edit_spec.specs.Edits.{append_element, append_table, edited_document, remove, rename, set}
use Rattle.keep_edit_spec.specs.Laws.{IsEditable}
use Rattle.keep_edit_spec.specs.Lines.{newline_of}
use Rattle.keep_edit_spec.specs.RemovedLines.{RemovesLine}
use Rattle.keep_edit_spec.specs.RenamedKeys.{RenamesKey}
use Rattle.keep_edit_spec.specs.Runs.{AreApart, PassesBy}
use Rattle.keep_edit_spec.specs.SetValues.{SetsValue}
use Rattle.keep_edit_spec.specs.TextChanges.{IsBeside, TextChange, moved}

abbrev pub DottedAfterSet : Type 0
DottedAfterSet =
    (profile : Profile) (limit : ℕ) (s : Document) (path : List Part) (value : Value) (c : TextChange)
    (other : List Part) (more : Value) (d : TextChange)
    → IsEditable profile limit s → SetsValue profile limit s path value c → AddsDotted profile limit s other more d
    → AreApart path (first_new s other) → IsBeside c d
    → newline_of (edited_document s (set path value)) ≡ newline_of s → c.at + c.size ≢ d.at
    → StillAdds true profile limit s (edited_document s (set path value)) other more (moved c d)

abbrev pub DottedAfterRename : Type 0
DottedAfterRename =
    (profile : Profile) (limit : ℕ) (s : Document) (path : List Part) (name : List ℕ) (c : TextChange)
    (other : List Part) (more : Value) (d : TextChange)
    → IsEditable profile limit s → RenamesKey profile limit s path name c → AddsDotted profile limit s other more d
    → AreApart path (first_new s other) → AreApart (beside path name) (first_new s other) → IsBeside c d
    → newline_of (edited_document s (rename path name)) ≡ newline_of s → c.at + c.size ≢ d.at
    → StillAdds true profile limit s (edited_document s (rename path name)) other more (moved c d)

abbrev pub DottedAfterRemove : Type 0
DottedAfterRemove =
    (profile : Profile) (limit : ℕ) (s : Document) (path : List Part) (c : TextChange)
    (other : List Part) (more : Value) (d : TextChange)
    → IsEditable profile limit s → RemovesLine profile limit s path c → AddsDotted profile limit s other more d
    → AreApart path (first_new s other) → IsBeside c d
    → newline_of (edited_document s (remove path)) ≡ newline_of s → c.at + c.size ≢ d.at
    → StillAdds true profile limit s (edited_document s (remove path)) other more (moved c d)

abbrev pub DottedAfterClear : Type 0
DottedAfterClear =
    (profile : Profile) (limit : ℕ) (s : Document) (path : List Part) (c : TextChange)
    (other : List Part) (more : Value) (d : TextChange)
    → IsEditable profile limit s → ClearsLine profile limit s path c → AddsDotted profile limit s other more d
    → AreApart path (first_new s other) → IsBeside c d
    → newline_of (edited_document s (remove path)) ≡ newline_of s → c.at + c.size ≢ d.at
    → StillAdds true profile limit s (edited_document s (remove path)) other more (moved c d)

abbrev pub DottedAfterTable : Type 0
DottedAfterTable =
    (profile : Profile) (limit : ℕ) (s : Document) (keys : List (List ℕ)) (c : TextChange)
    (other : List Part) (more : Value) (d : TextChange)
    → IsEditable profile limit s → AppendsTable profile limit s keys c → AddsDotted profile limit s other more d
    → PassesBy keys (first_new s other) → c.at ≢ d.at
    → newline_of (edited_document s (append_table keys)) ≡ newline_of s
    → StillAdds true profile limit s (edited_document s (append_table keys)) other more (moved c d)

abbrev pub DottedAfterElement : Type 0
DottedAfterElement =
    (profile : Profile) (limit : ℕ) (s : Document) (keys : List (List ℕ)) (c : TextChange)
    (other : List Part) (more : Value) (d : TextChange)
    → IsEditable profile limit s → AppendsElement profile limit s keys c → AddsDotted profile limit s other more d
    → PassesBy keys (first_new s other) → c.at ≢ d.at
    → newline_of (edited_document s (append_element keys)) ≡ newline_of s
    → StillAdds true profile limit s (edited_document s (append_element keys)) other more (moved c d)

-- ---- right before what goes

abbrev pub DottedBeforeSet : Type 0
DottedBeforeSet =
    (profile : Profile) (limit : ℕ) (s : Document) (path : List Part) (value : Value) (c : TextChange)
    (other : List Part) (more : Value) (d : TextChange)
    → IsEditable profile limit s → SetsValue profile limit s path value c → AddsDotted profile limit s other more d
    → AreApart path (first_new s other) → c.at ≡ d.at
    → newline_of (edited_document s (set path value)) ≡ newline_of s
    → StillAdds true profile limit s (edited_document s (set path value)) other more d

abbrev pub DottedBeforeRename : Type 0
DottedBeforeRename =
    (profile : Profile) (limit : ℕ) (s : Document) (path : List Part) (name : List ℕ) (c : TextChange)
    (other : List Part) (more : Value) (d : TextChange)
    → IsEditable profile limit s → RenamesKey profile limit s path name c → AddsDotted profile limit s other more d
    → AreApart path (first_new s other) → AreApart (beside path name) (first_new s other) → c.at ≡ d.at
    → newline_of (edited_document s (rename path name)) ≡ newline_of s
    → StillAdds true profile limit s (edited_document s (rename path name)) other more d

abbrev pub DottedBeforeRemove : Type 0
DottedBeforeRemove =
    (profile : Profile) (limit : ℕ) (s : Document) (path : List Part) (c : TextChange)
    (other : List Part) (more : Value) (d : TextChange)
    → IsEditable profile limit s → RemovesLine profile limit s path c → AddsDotted profile limit s other more d
    → AreApart path (first_new s other) → c.at ≡ d.at
    → newline_of (edited_document s (remove path)) ≡ newline_of s
    → StillAdds true profile limit s (edited_document s (remove path)) other more d

abbrev pub DottedBeforeClear : Type 0
DottedBeforeClear =
    (profile : Profile) (limit : ℕ) (s : Document) (path : List Part) (c : TextChange)
    (other : List Part) (more : Value) (d : TextChange)
    → IsEditable profile limit s → ClearsLine profile limit s path c → AddsDotted profile limit s other more d
    → AreApart path (first_new s other) → c.at ≡ d.at
    → newline_of (edited_document s (remove path)) ≡ newline_of s
    → StillAdds true profile limit s (edited_document s (remove path)) other more d
