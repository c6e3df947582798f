use Rattle.std.proofs.Common.{sym, ◌∙◌, arith}
use Rattle.keep_edit_plan.proofs.RemoveSteps.{body_next, body_on, body_done}
use Rattle.keep_edit_plan.proofs.remove.body_end.Goals as goal

pub loop-next-preserved : goal.loop-next-preserved
loop-next-preserved c =
    body_next c.loop-next.end c.loop-next.next _ c.statement-statement.result _ _ c.statement-statement.ensures
    c.in-KeyVal.is (omega arith) c.loop-next.invariant

pub returns-in_default : goal.returns-in_default
returns-in_default c =
    sym (body_on c.loop-next.end c.loop-next.next c.statement-statement.result _ c.statement-statement.ensures
    c.in_default.not-KeyVal) ∙ c.loop-next.invariant

pub returns : goal.returns
returns c =
    sym (body_done c.loop-next.end c.loop-next.next _
    (omega (arith, c.loop-next-test.false, c.statement_count-next-end.ensures))) ∙ c.loop-next.invariant
