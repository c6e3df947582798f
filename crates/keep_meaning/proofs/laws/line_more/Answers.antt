use Rattle.keep_meaning.proofs.LineLaws.{line_adds_node, line_takes_node}
use Rattle.keep_meaning.proofs.laws.line_more.Goals as goal

pub returns-clause-added : goal.returns-clause-added
returns-clause-added c = line_adds_node

pub returns-clause-taken : goal.returns-clause-taken
returns-clause-taken c = line_takes_node
