use Rattle.keep_edit_spec.proofs.Lists.EntryEditRuns.{run_goes_on_by_entry}
use Rattle.keep_edit_spec.proofs.Lists.EntryEdits.{still_makes_set}
use Rattle.keep_edit_spec.proofs.laws.edits_of_entries_are_sets.Goals as goal

pub returns-clause-still : goal.returns-clause-still
returns-clause-still c = still_makes_set

pub returns-clause-run : goal.returns-clause-run
returns-clause-run c = run_goes_on_by_entry
