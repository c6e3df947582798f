use Rattle.keep_syntax.proofs.LawLaws.{tokens_few, tokens_reach}
use Rattle.keep_syntax.proofs.laws.token_bound.Goals as goal

pub returns-clause-few : goal.returns-clause-few
returns-clause-few c = tokens_few

pub returns-clause-reached : goal.returns-clause-reached
returns-clause-reached c = tokens_reach
