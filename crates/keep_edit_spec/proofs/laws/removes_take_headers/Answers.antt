use Rattle.keep_edit_spec.proofs.Lists.HeaderRunLaws.{header_run_goes_on, none_is_header_run}
use Rattle.keep_edit_spec.proofs.Lists.StillRemovesHeader.{still_removes_header}
use Rattle.keep_edit_spec.proofs.laws.removes_take_headers.Goals as goal

pub returns-clause-still : goal.returns-clause-still
returns-clause-still c = still_removes_header

pub returns-clause-none : goal.returns-clause-none
returns-clause-none c = none_is_header_run

pub returns-clause-run : goal.returns-clause-run
returns-clause-run c = header_run_goes_on
