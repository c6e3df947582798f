use Rattle.keep_edit_spec.proofs.Lists.EndBelow.{end_goes_on_below}
use Rattle.keep_edit_spec.proofs.Lists.EndEdits.{end_comes_after_entry, end_comes_later}
use Rattle.keep_edit_spec.proofs.Lists.EndElements.{end_comes_after_element}
use Rattle.keep_edit_spec.proofs.Lists.EndHeaders.{end_goes_on}
use Rattle.keep_edit_spec.proofs.laws.ends_come_later.Goals as goal

pub returns-clause-later : goal.returns-clause-later
returns-clause-later c = end_comes_later

pub returns-clause-entry : goal.returns-clause-entry
returns-clause-entry c = end_comes_after_entry

pub returns-clause-element : goal.returns-clause-element
returns-clause-element c = end_comes_after_element

pub returns-clause-header : goal.returns-clause-header
returns-clause-header c = end_goes_on

pub returns-clause-below : goal.returns-clause-below
returns-clause-below c = end_goes_on_below end_comes_later
