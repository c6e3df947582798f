use Rattle.keep_edit_spec.proofs.Lists.AheadOfBrought.{brings_ahead}
use Rattle.keep_edit_spec.proofs.Lists.BroughtBelow.{brings_below_element, brings_below_table}
use Rattle.keep_edit_spec.proofs.laws.headers_come_below.Goals as goal

pub returns-clause-table : goal.returns-clause-table
returns-clause-table c = brings_below_table

pub returns-clause-element : goal.returns-clause-element
returns-clause-element c = brings_below_element

pub returns-clause-ahead : goal.returns-clause-ahead
returns-clause-ahead c = brings_ahead
