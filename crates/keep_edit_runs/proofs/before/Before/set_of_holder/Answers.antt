use Rattle.std.proofs.Common.{List, subst}
use Rattle.keep_path.specs.Path.{Part}
use Rattle.keep_edit_plan.specs.TextEdits.{MakesChangeHere}
use Rattle.keep_edit_plan.specs.declared.edit.Edit.TheVariants.{Set}
use Rattle.keep_edit_runs.proofs.InRuns.{same_place}
use Rattle.keep_edit_runs.proofs.before.Before.set_of_holder.Goals as goal

pub returns-clause-made : goal.returns-clause-made
returns-clause-made c =
    let holder : List Part = c.in_ok-holder.holder in
    let t = c.in_ok-change.change in
    let (part, whole) = c.in_ok-holder.ensures in
    record {
      holder = holder;
      part = part;
      whole = whole;
      sets = subst (λ d. MakesChangeHere d (Set holder c.args.value) t) c.as_ref.ensures c.in_ok-change.ensures;
    }

pub returns-clause-place : goal.returns-clause-place
returns-clause-place c =
    same_place c.ne.result c.in_ok-change.change.place c.args.place c.ne.ensures c.if-ne.false
