use Rattle.std.proofs.Common.{arith, subst, sym}
use Rattle.std.specs.Prelude.{IfSome}
use Rattle.keep_path.specs.Step.{part_of}
use Rattle.keep_edit_runs.specs.ValueAfter.{IsAlonePath}
use Rattle.keep_edit_runs.proofs.ValueAfterLaws.{alone_path}
use Rattle.keep_edit_runs.proofs.value_after.path_alone.Goals as goal

pub returns : goal.returns
returns c =
    subst (λ r. IfSome r (IsAlonePath c.args.path.now)) (sym c.ok.ensures.value)
    (alone_path c.args.path.now c.in_ok-last.last (part_of c.in_ok-step.step.now) c.entry_path.result c.len.ensures.utf8
    (omega (arith, c.len.ensures.count, c.in_ok-last.ensures.0, c.in_ok-last.ensures.1)) (sym c.in_ok-step.ensures)
    c.entry_path.ensures)
