use Rattle.keep_edit_spec.proofs.Lists.ElementRunLaws.{element_run_goes_on, element_run_goes_on_by_entry}
use Rattle.keep_edit_spec.proofs.Lists.ElementRunLaws.{element_run_goes_on_without, run_is_element_run}
use Rattle.keep_edit_spec.proofs.Lists.StillWithout.{still_makes_without, still_removes_after}
use Rattle.keep_edit_spec.proofs.laws.elements_go_in_runs.Goals as goal

pub returns-clause-still : goal.returns-clause-still
returns-clause-still c = still_makes_without

pub returns-clause-after : goal.returns-clause-after
returns-clause-after c = still_removes_after

pub returns-clause-known : goal.returns-clause-known
returns-clause-known c = run_is_element_run

pub returns-clause-run : goal.returns-clause-run
returns-clause-run c = element_run_goes_on

pub returns-clause-entry : goal.returns-clause-entry
returns-clause-entry c = element_run_goes_on_by_entry

pub returns-clause-without : goal.returns-clause-without
returns-clause-without c = element_run_goes_on_without
