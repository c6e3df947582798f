use Rattle.std.proofs.Common.{arith}
use Rattle.keep_index_store.proofs.NodeRowLemmas.{count_seen}
use Rattle.keep_index_store.proofs.nodes.Nodes.len.Goals as goal

pub returns : goal.returns
returns c = omega (arith, c.len.ensures, count_seen _ _ _ c.self.view_is c.self.invariant, c.self.inside.list.ok.0)
