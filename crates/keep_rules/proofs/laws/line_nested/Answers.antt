use Rattle.keep_rules.proofs.LineNestedLaws.{line_is_nested, line_leaves_nested}
use Rattle.keep_rules.proofs.laws.line_nested.Goals as goal

pub returns-clause-nested : goal.returns-clause-nested
returns-clause-nested c = line_is_nested

pub returns-clause-left : goal.returns-clause-left
returns-clause-left c = line_leaves_nested
