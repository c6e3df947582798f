-- Lists of edits that are made at once, where the value of a line that one of them adds is set later: the line is added
-- once, with the later value.
use Rattle.std.specs.Prelude.{◌≡◌, ◌⊎◌, ℕ, IsTrue, List, ◌∷◌, ◌++◌, None, All}
use Rattle.keep_types.specs.declared.leaf.Profile.{Profile}
use Rattle.keep_syntax.specs.Tree.{Document, Value, value_text}
use Rattle.keep_path.specs.Path.{Part}
use Rattle.keep_edit_spec.specs.Edits.{edited_document, insert, set}
use Rattle.keep_edit_spec.specs.InsertKinds.{AddsAs}
use Rattle.keep_edit_spec.specs.Laws.{IsEditable}
use Rattle.keep_edit_spec.specs.Refusals.{refusal}
use Rattle.keep_edit_spec.specs.RunLists.{AreAtOnce, MadeEdit, changes_of, document_after, made, seen_of}
use Rattle.keep_edit_spec.specs.FirstNewline.{LeavesNewline}
use Rattle.keep_edit_spec.specs.Runs.{MakesChange, is_insert}
use Rattle.keep_edit_spec.specs.SetValues.{SetsValue}
use Rattle.keep_edit_spec.specs.TextChanges.{TextChange}
use Rattle.keep_edit_spec.specs.declared.line_kind.LineKind.{LineKind}

-- the first is one of the third, and the fourth have the second in its place
pub record IsExchanged (m by : MadeEdit) (ms others : List MadeEdit) : Type 0 where
  pub later : List MadeEdit
  pub earlier : List MadeEdit
  pub all : ms ≡ later ++ m ∷ earlier
  pub other : others ≡ later ++ by ∷ earlier

-- A set after these edits, one of which adds a line at that path by the change c: it writes the later value there, is
-- not refused, and makes the document that they make with the later value inserted, by the change d in the place of c.
-- So they are at once, too.
pub record IsRunInsertedAgain (profile : Profile) (limit : ℕ) (s : Document) (ms : List MadeEdit) (path : List Part)
    (more : Value) (before : List TextChange) (c d : TextChange) (after : List TextChange) : Type 0 where
  pub value : Value
  pub others : List MadeEdit
  pub exchanged : IsExchanged (made (insert path value) c) (made (insert path more) d) ms others
  pub changes : changes_of others ≡ before ++ d ∷ after
  pub at : c.at ≡ d.at
  pub there : TextChange
  pub new_is : there.new ≡ value_text more
  pub sets : SetsValue profile limit (document_after s ms) path more there
  pub allowed : refusal profile limit (document_after s ms) (set path more) ≡ None
  pub same : edited_document (document_after s ms) (set path more) ≡ document_after s others
  pub still : AreAtOnce profile limit s others

-- One of the changes is that of an insert that adds a line; another value there adds a line as well, and its newlines
-- are alike, or all edits add lines. No edit follows a header.
abbrev pub RunGoesOnInserted : Type 0
RunGoesOnInserted =
    (profile : Profile) (limit : ℕ) (s : Document) (ms : List MadeEdit) (path : List Part) (value more : Value)
    (kind : LineKind) (before : List TextChange) (c d : TextChange) (after : List TextChange)
    → IsEditable profile limit s → AreAtOnce profile limit s ms
    → All (λ m. MakesChange profile limit s m.edit m.change) ms
    → AddsAs kind profile limit s path value c → changes_of ms ≡ before ++ c ∷ after
    → AddsAs kind profile limit s path more d
    → LeavesNewline s d ⊎ All (λ e. IsTrue (is_insert e)) (seen_of s ms)
    → IsRunInsertedAgain profile limit s ms path more before c d after
