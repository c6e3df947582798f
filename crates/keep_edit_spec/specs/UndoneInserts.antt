-- Inserts whose line is taken away again right after them.
use Rattle.std.specs.Prelude.{◌≡◌, ℕ, Bool, List, None}
use Rattle.keep_types.specs.declared.leaf.Profile.{Profile}
use Rattle.keep_syntax.specs.Tree.{Value, Document}
use Rattle.keep_path.specs.Path.{Part}
use Rattle.keep_edit_spec.specs.DottedLines.{AddsLineTo}
use Rattle.keep_edit_spec.specs.Edits.{edited_document, insert, remove}
use Rattle.keep_edit_spec.specs.Laws.{IsEditable}
use Rattle.keep_edit_spec.specs.Refusals.{refusal}
use Rattle.keep_edit_spec.specs.TextChanges.{TextChange}

-- The remove of what an insert has just added is not refused, and leaves the document as it was before both.
pub record IsUndone (profile : Profile) (limit : ℕ) (s : Document) (path : List Part) (value : Value) : Type 0 where
  pub allowed : refusal profile limit (edited_document s (insert path value)) (remove path) ≡ None
  pub same : edited_document (edited_document s (insert path value)) (remove path) ≡ s

-- So it is with an insert that adds a line, at the end of a body or to a table that dotted keys make.
abbrev pub RemoveUndoesInsert : Type 0
RemoveUndoesInsert =
    (profile : Profile) (limit : ℕ) (s : Document) (path : List Part) (value : Value) (c : TextChange) (to : Bool)
    → IsEditable profile limit s → AddsLineTo to profile limit s path value c → IsUndone profile limit s path value
