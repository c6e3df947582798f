use Rattle.keep_meaning.proofs.Shared.{dots_have_last}
use Rattle.keep_rules.proofs.DotsKnownLaws.{dots_add_nodes, dots_add_value_nodes}
use Rattle.keep_rules.proofs.DotsLessLaws.{dots_take_nodes}
use Rattle.keep_rules.proofs.laws.dots_known.Goals as goal

pub returns-clause-added : goal.returns-clause-added
returns-clause-added c = dots_add_nodes

pub returns-clause-valued : goal.returns-clause-valued
returns-clause-valued c = dots_add_value_nodes

pub returns-clause-taken : goal.returns-clause-taken
returns-clause-taken c = dots_take_nodes dots_have_last
