use Rattle.std.proofs.Common.{refl, subst, subst₂, sym}
use Rattle.keep_syntax.specs.Tree.{Document, Value}
use Rattle.keep_edit_spec.specs.InsertKinds.{AddsAs}
use Rattle.keep_edit_plan.specs.Answers.{IsSpanOf}
use Rattle.keep_edit_plan.specs.TextEdits.{MakesChangeHere, change_of}
use Rattle.keep_edit_plan.specs.Reading.{IsTextOfTree, IsTextOfValue, ProfiledText, limit}
use Rattle.keep_edit_runs.specs.Runs.{MakesItselfHere}
use Rattle.keep_edit_runs.proofs.InRuns.{line_in_run, other_in_run}
use Rattle.keep_edit_runs.proofs.before.Before.change_by_itself.Goals as goal

pub returns-in-Insert-clause-made : goal.returns-in-Insert-clause-made
returns-in-Insert-clause-made c =
    let line = c.in_ok-line.line in
    line_in_run c.args.self.now c.args.edit.now c.in-Insert.path c.in-Insert.value line.text_edit line.kind
    c.in-Insert.is
    (subst (λ (now : ProfiledText). (s : Document) → IsTextOfTree now s → (v : Value)
    → IsTextOfValue c.in-Insert.value v
    → AddsAs line.kind now.profile limit s c.in-Insert.path v (change_of line.text_edit)) c.requires
    c.in_ok-line.ensures.added)
    (subst (λ (now : ProfiledText). IsSpanOf now.text line.text_edit.place) c.requires c.in_ok-line.ensures.within)
    c.line.ensures.value

pub returns : goal.returns
returns c =
    let now = c.args.self.now in
    let x = c.args.edit.now in
    let change = c.in_ok-change.change in
    record {
      made = subst₂ (λ t line. MakesItselfHere now x t line) (sym c.other.ensures.0) (sym c.other.ensures.1)
          (other_in_run now x change c.in_default.not-Insert
          (subst (λ d. MakesChangeHere d x change) c.as_ref.ensures c.in_ok-change.ensures));
      planner = refl;
    }
