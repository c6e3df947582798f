use Rattle.keep_edit_spec.proofs.Lists.StillAppends.{still_appends_element, still_appends_table}
use Rattle.keep_edit_spec.proofs.laws.appends_add_headers.Goals as goal

pub returns-clause-table : goal.returns-clause-table
returns-clause-table c = still_appends_table

pub returns-clause-element : goal.returns-clause-element
returns-clause-element c = still_appends_element
