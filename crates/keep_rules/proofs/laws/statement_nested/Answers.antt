use Rattle.keep_rules.proofs.StatementNestedLaws.{statement_is_nested}
use Rattle.keep_rules.proofs.laws.statement_nested.Goals as goal

pub returns : goal.returns
returns c = statement_is_nested
