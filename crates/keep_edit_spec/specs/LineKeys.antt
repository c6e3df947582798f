-- Lists of edits that are made at once, where the key of a line that one of them adds is renamed later: the line is
-- added once, with the later key.
use Rattle.std.specs.Prelude.{◌≡◌, ◌⊎◌, ℕ, IsTrue, IsUtf8, List, ◌∷◌, ◌++◌, All}
use Rattle.keep_types.specs.declared.leaf.Profile.{Profile}
use Rattle.keep_syntax.specs.Tree.{Document, Value}
use Rattle.keep_path.specs.Path.{Part, beside}
use Rattle.keep_edit_spec.specs.AddedLines.{AddsLine, first_new}
use Rattle.keep_edit_spec.specs.Edits.{edited_document, insert, rename}
use Rattle.keep_edit_spec.specs.FirstNewline.{LeavesNewline}
use Rattle.keep_edit_spec.specs.InsertKinds.{added_as, kind_of, table_of}
use Rattle.keep_edit_spec.specs.InsertLists.{IsExchanged}
use Rattle.keep_edit_spec.specs.Laws.{IsEditable}
use Rattle.keep_edit_spec.specs.RenamedKeys.{RenamesKey}
use Rattle.keep_edit_spec.specs.RunLists.{AreAtOnce, MadeEdit, changes_of, document_after, made, seen_of}
use Rattle.keep_edit_spec.specs.Runs.{LeavesAlone, MakesChange, is_insert}
use Rattle.keep_edit_spec.specs.TextChanges.{TextChange}

-- A rename after these edits, one of which adds a line of one key at that path by the change c: it makes its change
-- there, and the document that they make with the value inserted at the new path, by the change d in the place of c. So
-- they are at once, too, and the line comes to the same place of the same table.
pub record IsRunRenamedThere (profile : Profile) (limit : ℕ) (s : Document) (ms : List MadeEdit) (path : List Part)
    (value : Value) (name : List ℕ) (before : List TextChange) (c d : TextChange) (after : List TextChange)
    : Type 0 where
  pub others : List MadeEdit
  pub exchanged : IsExchanged (made (insert path value) c) (made (insert (beside path name) value) d) ms others
  pub first : first_new s (beside path name) ≡ beside path name
  pub at : c.at ≡ d.at
  pub kind : kind_of s path ≡ kind_of s (beside path name)
  pub table : table_of (added_as s path c) ≡ table_of (added_as s (beside path name) d)
  pub changes : changes_of others ≡ before ++ d ∷ after
  pub there : TextChange
  pub renames : RenamesKey profile limit (document_after s ms) path name there
  pub same : edited_document (document_after s ms) (rename path name) ≡ document_after s others
  pub still : AreAtOnce profile limit s others

-- One of the changes is that of an insert of one key that adds a line at the end of a body; an insert of another key
-- there, which the edits leave alone, adds a line as well, and its newlines are alike, or all edits add lines. No edit
-- follows a header.
abbrev pub RunGoesOnRenamedThere : Type 0
RunGoesOnRenamedThere =
    (profile : Profile) (limit : ℕ) (s : Document) (ms : List MadeEdit) (path : List Part) (value : Value)
    (name : List ℕ) (before : List TextChange) (c d : TextChange) (after : List TextChange)
    → IsEditable profile limit s → AreAtOnce profile limit s ms
    → All (λ m. MakesChange profile limit s m.edit m.change) ms
    → AddsLine profile limit s path value c → changes_of ms ≡ before ++ c ∷ after → first_new s path ≡ path
    → IsUtf8 name → AddsLine profile limit s (beside path name) value d
    → All (λ e. LeavesAlone e (insert (beside path name) value)) (seen_of s ms)
    → LeavesNewline s d ⊎ All (λ e. IsTrue (is_insert e)) (seen_of s ms)
    → IsRunRenamedThere profile limit s ms path value name before c d after
