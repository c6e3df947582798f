use Rattle.std.proofs.Common.{◌≡◌, List, None, Option, Some, subst, ℕ}
use Rattle.std.specs.Prelude.{IfSome}
use Rattle.keep_types.specs.declared.leaf.Profile.TheVariants.{Wide}
use Rattle.keep_syntax.specs.Tree.{Document, Value}
use Rattle.keep_path.specs.Path.{Part}
use Rattle.keep_edit_spec.specs.BroughtHeaders.{BringsLine}
use Rattle.keep_edit_plan.specs.Answers.{IsSpanOf}
use Rattle.keep_edit_plan.specs.Reading.{IsAcceptedValue, IsTextOfTree, IsTextOfValue, ProfiledText, limit}
use Rattle.keep_edit_plan.specs.TextEdits.{change_of}
use Rattle.keep_edit_plan.specs.declared.edit.Edit.{Edit}
use Rattle.keep_edit_plan.specs.declared.edit.Edit.TheVariants.{Insert}
use Rattle.keep_edit_plan.specs.declared.text_edit.TextEdit.{TextEdit}
use Rattle.keep_edit_runs.specs.Runs.{AddsLineAlone}
use Rattle.keep_edit_runs.proofs.before.Before.line_alone.Goals as goal

line_of : (now : ProfiledText) (x : Edit) (path : List Part) (given : List ℕ) (r : Option TextEdit)
    → x ≡ Insert path given → IsAcceptedValue Wide given
    → ((s : Document) → IsTextOfTree now s → (v : Value) → IsTextOfValue given v
    → IfSome r (λ made. BringsLine now.profile limit s path v (change_of made)))
    → IfSome r (λ made. IsSpanOf now.text made.place) → IfSome r (AddsLineAlone now x)
line_of now x path given None is accepted adds within = tt
line_of now x path given (Some t) is accepted adds within = record {
  path = path;
  given = given;
  is = is;
  accepted = accepted;
  adds = adds;
  within = within;
}

pub returns : goal.returns
returns c =
    subst (λ (d : ProfiledText). IfSome c.brought_line.result (AddsLineAlone d c.args.edit.now)) c.as_ref.ensures
    (line_of c.as_ref.result c.args.edit.now c.in-Insert.path c.in-Insert.value c.brought_line.result
    c.in-Insert.is c.brought_line.ensures.value c.brought_line.ensures.added c.brought_line.ensures.within)
