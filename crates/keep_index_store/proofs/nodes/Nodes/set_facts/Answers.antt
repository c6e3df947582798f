use Rattle.std.proofs.Common.{arith}
use Rattle.keep_index_store.proofs.NodeRowLemmas.{count_seen, facts_set}
use Rattle.keep_index_store.proofs.nodes.Nodes.set_facts.Goals as goal

pub index_mut-node-requires : goal.index_mut-node-requires
index_mut-node-requires c =
    omega (arith, c.requires, count_seen _ _ _ c.self.view_is c.self.invariant, c.self.inside.list.ok.0)

pub returns : goal.returns
returns c =
    facts_set _ _ _ c.self.view_is c.self.invariant c.args.id c.requires c.index_mut-node.result.now c.args.facts
    c.index_mut-node.ensures.value
