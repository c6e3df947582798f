use Rattle.keep_rules.proofs.KeysNestedLaws.{keys_are_nested, keys_leave_nested}
use Rattle.keep_rules.proofs.laws.keys_nested.Goals as goal

pub returns-clause-nested : goal.returns-clause-nested
returns-clause-nested c = keys_are_nested

pub returns-clause-left : goal.returns-clause-left
returns-clause-left c = keys_leave_nested
