use Rattle.keep_rules.proofs.DotsNestedLaws.{dots_are_nested, dots_leave_nested}
use Rattle.keep_rules.proofs.laws.dots_nested.Goals as goal

pub returns-clause-nested : goal.returns-clause-nested
returns-clause-nested c = dots_are_nested

pub returns-clause-left : goal.returns-clause-left
returns-clause-left c = dots_leave_nested
