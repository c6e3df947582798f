-- Edits that are made in their order.
use Rattle.std.specs.Prelude.{◌≡◌, ℕ, ◌+◌, ◌≤◌, List, [], ◌∷◌, length, Ok}
use Rattle.std.specs.List.{AllZip}
use Rattle.keep_syntax.specs.Tree.{Document}
use Rattle.keep_edit_spec.specs.Answers.{applied_edits}
use Rattle.keep_edit_spec.specs.Edits as law
use Rattle.keep_edit_spec.specs.Laws.{given_size}
use Rattle.keep_edit_plan.specs.Reading.{limit, ProfiledText, IsTextOfTree}
pub use Rattle.keep_edit_plan.specs.Given.{IsEdit}
use Rattle.keep_edit_plan.specs.declared.edit.Edit.{Edit}

-- the sum of what they give, and 12 bytes each
abbrev pub growth_of : List law.Edit → ℕ
growth_of [] = 0
growth_of (e ∷ es) = given_size e + 12 + growth_of es

-- All edits are made in their order, each on the document after those before it, and the new text is that of the last
-- document. It has grown by no more than what they give, as it is written, and 12 bytes each.
pub record AreMade (s : Document) (edits : List Edit) (old : ProfiledText) (new : ProfiledText) : Type 0 where
  pub es : List law.Edit
  pub are : AllZip IsEdit edits es
  pub tree : Document
  pub made : applied_edits old.profile limit es s ≡ Ok tree
  pub read : IsTextOfTree new tree
  pub profile : new.profile ≡ old.profile
  pub growth : length new.text ≤ length old.text + growth_of es
