use Rattle.std.proofs.Common.{length, sym, ◌∙◌, arith}
use Rattle.keep_syntax.specs.Contract.{statements_of, values_of}
use Rattle.keep_edit_plan.proofs.LineNumberLaws.{value_here, value_over}
use Rattle.keep_edit_plan.proofs.FoundLaws.{none_unless}
use Rattle.keep_edit_plan.proofs.insert.numbers.next_value.Goals as goal

pub returns-in-Some : goal.returns-in-Some
returns-in-Some c =
    sym (value_here (length (values_of c.args.syntax.now)) c.loop-number.number _ _ (statements_of c.args.syntax.now)
    c.statement.ensures c.in-Some.is) ∙ c.loop-number.invariant

pub loop-number-preserved : goal.loop-number-preserved
loop-number-preserved c =
    sym (value_over (length (values_of c.args.syntax.now)) c.loop-number.number _ _ (statements_of c.args.syntax.now)
    c.statement.ensures (omega arith) (none_unless _ c.in_default.not-Some))
    ∙ c.loop-number.invariant
