use Rattle.std.proofs.Common.{sym, ◌∙◌}
use Rattle.keep_edit_plan.proofs.HolderSetLaws.{not_first, step_taken}
use Rattle.keep_edit_plan.proofs.holder_set.first_steps.Goals as goal

pub push_step-requires : goal.push_step-requires
push_step-requires c =
    not_first c.args.path.now c.loop-number.first c.loop-number.number _ c.len.ensures.rooted (sym c.in-Some.ensures)
    c.loop-number.invariant

pub loop-number-preserved : goal.loop-number-preserved
loop-number-preserved c =
    c.in_ok-push_step.ensures
    ∙ step_taken c.args.path.now c.loop-number.first c.loop-number.number _ (sym c.in-Some.ensures)
    c.loop-number.invariant
