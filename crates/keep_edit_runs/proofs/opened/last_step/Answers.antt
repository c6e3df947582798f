use Rattle.std.proofs.Common.{arith, sym}
use Rattle.keep_path.specs.Step.{part_of}
use Rattle.keep_edit_runs.proofs.OpenedLaws.{ends_in}
use Rattle.keep_edit_runs.proofs.opened.last_step.Goals as goal

pub returns-clause-last : goal.returns-clause-last
returns-clause-last c = ends_in c.args.path.now c.in_ok-last.last (part_of c.in_ok-step.step.now)
    (omega (arith, c.len.ensures.count, c.in_ok-last.ensures.0, c.in_ok-last.ensures.1)) (sym c.in_ok-step.ensures)
