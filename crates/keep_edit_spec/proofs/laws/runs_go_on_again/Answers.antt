use Rattle.keep_edit_spec.proofs.Lists.BehindHeaders.{run_goes_on_behind}
use Rattle.keep_edit_spec.proofs.Lists.InsertLists.{run_goes_on_inserted}
use Rattle.keep_edit_spec.proofs.Lists.LineKeys.{run_goes_on_renamed_there}
use Rattle.keep_edit_spec.proofs.Lists.RenameLists.{run_goes_on_renamed}
use Rattle.keep_edit_spec.proofs.Lists.RunLists.{run_goes_on_again, run_is_known}
use Rattle.keep_edit_spec.proofs.laws.runs_go_on_again.Goals as goal

pub returns-clause-known : goal.returns-clause-known
returns-clause-known c = run_is_known

pub returns-clause-behind : goal.returns-clause-behind
returns-clause-behind c = run_goes_on_behind

pub returns-clause-run : goal.returns-clause-run
returns-clause-run c = run_goes_on_again

pub returns-clause-renamed : goal.returns-clause-renamed
returns-clause-renamed c = run_goes_on_renamed

pub returns-clause-inserted : goal.returns-clause-inserted
returns-clause-inserted c = run_goes_on_inserted

pub returns-clause-there : goal.returns-clause-there
returns-clause-there c = run_goes_on_renamed_there
