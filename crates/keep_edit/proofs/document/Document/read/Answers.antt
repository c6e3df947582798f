use Rattle.keep_edit.proofs.document.Document.read.Goals as goal

pub returns-clause-text : goal.returns-clause-text
returns-clause-text c = c.read_in.ensures.text

pub returns-clause-accepted : goal.returns-clause-accepted
returns-clause-accepted c = c.read_in.ensures.accepted

pub returns-clause-only : goal.returns-clause-only
returns-clause-only c = c.read_in.ensures.only

pub returns-clause-faults : goal.returns-clause-faults
returns-clause-faults c = c.read_in.ensures.faults
