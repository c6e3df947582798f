use Rattle.std.proofs.Common.{ap, arith}
use Rattle.keep_edit_runs.specs.Counts.{count_at}
use Rattle.keep_edit_runs.specs.declared.counts.Counts.{Counts}
use Rattle.keep_edit_runs.proofs.LengthLaws.{sum_next}
use Rattle.keep_edit_runs.proofs.counts.LengthCounts.shorter.Goals as goal

pub loop-number-preserved : goal.loop-number-preserved
loop-number-preserved c =
    let cs = c.as_slice-counts.result.now in
    let n = c.loop-number.number in
    let next = c.index-counts-number.result in
    omega (
      arith,
      sum_next cs n c.args.at next
          (omega (arith, c.loop-number-test.true, c.min-number-end.ensures, c.as_slice-counts.ensures.len)),
      c.loop-number.invariant,
      c.in_ok-sum.ensures,
      c.at.ensures,
      ap (λ (counts : Counts). count_at counts c.args.at) c.index-counts-number.is,
    )
