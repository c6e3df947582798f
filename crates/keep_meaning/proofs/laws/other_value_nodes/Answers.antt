use Rattle.keep_meaning.proofs.OtherValueLaws.{value_gives_nodes}
use Rattle.keep_meaning.proofs.laws.other_value_nodes.Goals as goal

pub returns : goal.returns
returns c = value_gives_nodes
