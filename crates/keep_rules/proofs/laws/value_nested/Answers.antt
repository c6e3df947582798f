use Rattle.keep_rules.proofs.ValueNestedLaws.{value_is_nested}
use Rattle.keep_rules.proofs.laws.value_nested.Goals as goal

pub returns : goal.returns
returns c = value_is_nested
