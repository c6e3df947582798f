-- Inserts of a list whose line the next edit takes away.
use Rattle.std.specs.Prelude.{Bool, List}
use Rattle.keep_syntax.specs.Tree.{Document, Value}
use Rattle.keep_path.specs.Path.{Part}
use Rattle.keep_edit_spec.specs.DottedLines.{AddsLineTo}
use Rattle.keep_edit_spec.specs.Edits as law
use Rattle.keep_edit_spec.specs.TextChanges.{TextChange}
use Rattle.keep_edit_plan.specs.Given.{IsEdit}
use Rattle.keep_edit_plan.specs.Reading.{IsTextOfTree, ProfiledText, limit}
use Rattle.keep_edit_plan.specs.declared.edit.Edit.{Edit}

-- The first edit inserts a value at a path of the document of this text, by a line at the end of a body or of a table
-- that dotted keys make; the second one removes what is at that path.
pub record IsUndoneHere (now : ProfiledText) (edit next : Edit) : Type 0 where
  pub path : List Part
  pub value : Value
  pub inserts : IsEdit edit (law.insert path value)
  pub removes : IsEdit next (law.remove path)
  pub dotted : Bool
  pub change : TextChange
  pub line : (s : Document) → IsTextOfTree now s → AddsLineTo dotted now.profile limit s path value change
