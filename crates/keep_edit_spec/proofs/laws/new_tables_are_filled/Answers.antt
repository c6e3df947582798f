use Rattle.keep_edit_spec.proofs.Lists.FilledRunLaws.{filled_run_goes_on_element, filled_run_goes_on_key}
use Rattle.keep_edit_spec.proofs.Lists.FilledRunLaws.{filled_run_goes_on_table, none_is_filled_run}
use Rattle.keep_edit_spec.proofs.laws.new_tables_are_filled.Goals as goal

pub returns-clause-none : goal.returns-clause-none
returns-clause-none c = none_is_filled_run

pub returns-clause-table : goal.returns-clause-table
returns-clause-table c = filled_run_goes_on_table

pub returns-clause-key : goal.returns-clause-key
returns-clause-key c = filled_run_goes_on_key

pub returns-clause-element : goal.returns-clause-element
returns-clause-element c = filled_run_goes_on_element
