use Rattle.std.proofs.Common.{refl, arith}
use Rattle.keep_edit_runs.proofs.AlikeLaws.{same_takes}
use Rattle.keep_edit_runs.proofs.alike.agree.Goals as goal

pub returns : goal.returns
returns c = (
  λ yes. same_takes c.args.count c.args.path.now c.args.other.now
      (λ k low lt. c.loop-number.invariant k (omega (arith, c.loop-number-test.false)) lt),
  λ same. refl,
)
