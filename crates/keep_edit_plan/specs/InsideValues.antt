-- Edits inside the value of a line.
use Rattle.std.specs.Prelude.{◌≡◌, List, Some}
use Rattle.keep_syntax.specs.Tree.{Document}
use Rattle.keep_path.specs.Path.{Part}
use Rattle.keep_meaning.specs.Marks.{marks}
use Rattle.keep_meaning.specs.Meaning.{mentions_in}
use Rattle.keep_meaning.specs.Rules.{ObeysRules}
use Rattle.keep_edit_spec.specs.Changed.{Changed}
use Rattle.keep_edit_spec.specs.Edits.{Edit, change, nested}
use Rattle.keep_edit_spec.specs.Values.{Act}

-- The edit is an act at a path in the value of a line, or at that, and the rules hold of the new document.
pub record IsInside (path : List Part) (s : Document) (e : Edit) : Type 0 where
  pub act : Act
  pub changed : Changed Document
  pub inside : nested act path s ≡ Some changed
  pub is : change s e ≡ Some changed
  pub obeys : ObeysRules (marks (mentions_in changed.to))
