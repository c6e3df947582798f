use Rattle.std.proofs.Common.{arith}
use Rattle.keep_index_store.proofs.NodeRowLemmas.{links_seen, parent_read}
use Rattle.keep_index_store.proofs.nodes.Nodes.parent.Goals as goal

pub get-requires : goal.get-requires
get-requires c = omega (arith, c.requires, links_seen _ _ _ c.self.view_is c.self.invariant)

pub returns : goal.returns
returns c = parent_read _ _ _ c.self.view_is c.self.invariant c.args.id c.requires c.get.result c.get.ensures
