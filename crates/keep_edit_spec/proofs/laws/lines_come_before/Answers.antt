use Rattle.keep_edit_spec.proofs.Lists.LinesBefore.{run_goes_on_before}
use Rattle.keep_edit_spec.proofs.Lists.LinesInPlace.{run_goes_on_in_place}
use Rattle.keep_edit_spec.proofs.laws.lines_come_before.Goals as goal

pub returns-clause-place : goal.returns-clause-place
returns-clause-place c = run_goes_on_in_place

pub returns-clause-taken : goal.returns-clause-taken
returns-clause-taken c = run_goes_on_before
