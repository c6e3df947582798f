use Rattle.keep_rules.proofs.StatementKnownLaws.{statement_is_known}
use Rattle.keep_rules.proofs.laws.statement_known.Goals as goal

pub returns : goal.returns
returns c = statement_is_known
