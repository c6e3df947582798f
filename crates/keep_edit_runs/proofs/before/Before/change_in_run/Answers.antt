use Rattle.std.proofs.Common.{None, Some, subst, subst₂, sym}
use Rattle.keep_edit_plan.specs.TextEdits.{MakesSetHere}
use Rattle.keep_edit_runs.specs.Runs.{MakesInRunHere, outline}
use Rattle.keep_edit_runs.proofs.InRuns.{by_itself, by_set}
use Rattle.keep_edit_runs.proofs.before.Before.change_in_run.Goals as goal

pub returns-in_default : goal.returns-in_default
returns-in_default c = record {
  made = by_itself c.args.self.now c.args.edit.now c.args.seen c.change_by_itself.result c.in_default.not-Entry
      c.requires.seen c.change_by_itself.ensures.made;
  planner = c.change_by_itself.ensures.planner;
}

pub returns-clause-made : goal.returns-clause-made
returns-clause-made c =
    let now = c.args.self.now in
    let x = c.args.edit.now in
    let change = c.in_ok-change.change in
    subst₂ (λ t line. MakesInRunHere now x (outline x c.args.seen) t line) (sym c.other-2.ensures.0)
    (sym c.other-2.ensures.1)
    (subst (λ seen. MakesInRunHere now x (outline x seen) change None) (sym c.in-Entry.is)
    (by_set now x (Some change) (subst (λ d. MakesSetHere d x change) c.as_ref.ensures c.in_ok-change.ensures)))
