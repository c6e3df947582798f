use Rattle.std.proofs.Common.{◌+◌, refl, arith}
use Rattle.keep_syntax.specs.Contract.{statements_of}
use Rattle.keep_edit_plan.proofs.LineNumberLaws.{count_over, count_stops}
use Rattle.keep_edit_plan.proofs.insert.numbers.past_keyvals.Goals as goal

pub returns-in_default : goal.returns-in_default
returns-in_default c =
    let (end, so_far) = c.loop-number.invariant in
    omega (
      arith,
      end,
      so_far,
      count_stops c.loop-number.number _ (statements_of c.args.syntax.now) c.statement.ensures c.in_default.not-KeyVal,
    )

pub loop-number-preserved : goal.loop-number-preserved
loop-number-preserved c =
    let (end, so_far) = c.loop-number.invariant in (
      refl,
      omega (
        arith,
        so_far,
        count_over c.loop-number.number (c.loop-number.number + 1) _ (statements_of c.args.syntax.now)
            c.statement.ensures (omega arith) c.in-KeyVal.is,
      ),
    )
