use Rattle.keep_edit_spec.proofs.Lists.AheadOfAbove.{adds_ahead_of_above}
use Rattle.keep_edit_spec.proofs.Lists.AheadOfAppended.{adds_ahead_of_element, adds_ahead_of_table}
use Rattle.keep_edit_spec.proofs.Lists.AheadOfEnd.{adds_ahead_of_end}
use Rattle.keep_edit_spec.proofs.Lists.AheadOfHeader.{adds_ahead}
use Rattle.keep_edit_spec.proofs.Lists.BehindCounts.{counts_behind}
use Rattle.keep_edit_spec.proofs.Lists.LinesAhead.{run_goes_on_ahead}
use Rattle.keep_edit_spec.proofs.laws.lines_come_ahead.Goals as goal

pub returns-clause-header : goal.returns-clause-header
returns-clause-header c = adds_ahead

pub returns-clause-line : goal.returns-clause-line
returns-clause-line c = adds_ahead_of_end

pub returns-clause-above : goal.returns-clause-above
returns-clause-above c = adds_ahead_of_above

pub returns-clause-table : goal.returns-clause-table
returns-clause-table c = adds_ahead_of_table

pub returns-clause-element : goal.returns-clause-element
returns-clause-element c = adds_ahead_of_element

pub returns-clause-count : goal.returns-clause-count
returns-clause-count c = counts_behind

pub returns-clause-run : goal.returns-clause-run
returns-clause-run c = run_goes_on_ahead
