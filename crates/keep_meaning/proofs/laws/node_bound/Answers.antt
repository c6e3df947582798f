use Rattle.keep_meaning.proofs.BoundLaws.{nodes_reach}
use Rattle.keep_meaning.proofs.MeaningLaws.{nodes_are_few}
use Rattle.keep_meaning.proofs.laws.node_bound.Goals as goal

pub returns-clause-few : goal.returns-clause-few
returns-clause-few c = nodes_are_few

pub returns-clause-reached : goal.returns-clause-reached
returns-clause-reached c = nodes_reach
