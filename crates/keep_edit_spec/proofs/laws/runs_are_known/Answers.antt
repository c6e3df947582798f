use Rattle.keep_edit_spec.proofs.Lists.RunLaws.{none_is_run, run_goes_on}
use Rattle.keep_edit_spec.proofs.Lists.StillMakes.{still_makes}
use Rattle.keep_edit_spec.proofs.laws.runs_are_known.Goals as goal

pub returns-clause-still : goal.returns-clause-still
returns-clause-still c = still_makes

pub returns-clause-none : goal.returns-clause-none
returns-clause-none c = none_is_run

pub returns-clause-run : goal.returns-clause-run
returns-clause-run c = run_goes_on
