use Rattle.std.proofs.Common.{arith}
use Rattle.std.proofs.lemmas.Bool.{leb-true}
use Rattle.std.proofs.lemmas.Bool.Decides.{Decides-like}
use Rattle.keep_edit_runs.proofs.AlikeLaws.{begins_with, within}
use Rattle.keep_edit_runs.proofs.alike.is_within.Goals as goal

pub returns-then-len : goal.returns-then-len
returns-then-len c =
    let (below, begins) =
    within c.len-then-len.result c.args.above.now c.args.path.now c.len-then-len.ensures in
    Decides-like c.agree.result below begins c.agree.ensures

pub returns-else-len : goal.returns-else-len
returns-else-len c = (
  λ yes. absurd (omega (arith, leb-true c.len.result c.len-2.result yes, c.if-len.false)),
  λ h.
      let many = (begins_with c.args.above.now c.args.path.now h).0 in
      absurd (omega (arith, many, c.if-len.false, c.len.ensures, c.len-2.ensures)),
)
