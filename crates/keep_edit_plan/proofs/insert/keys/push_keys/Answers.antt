use Rattle.std.proofs.Common.{sym, arith}
use Rattle.keep_edit_plan.proofs.WritingLaws.{step_preserved, path_written}
use Rattle.keep_edit_plan.proofs.insert.keys.push_keys.Goals as goal

pub loop-number-preserved : goal.loop-number-preserved
loop-number-preserved c =
    step_preserved c.loop-number.dot c.in_ok-dot.dot _ c.loop-number.number _ c.args.to c.args.path.now _ _ _
    c.loop-number-test.true (omega arith) (sym c.in-Some.ensures) c.in_ok-dot.ensures c.loop-number.invariant

pub returns-in_default : goal.returns-in_default
returns-in_default c =
    path_written c.loop-number.dot c.loop-number.number c.args.to c.args.path.now _ _ (sym c.in_default.ensures)
    c.loop-number.invariant
