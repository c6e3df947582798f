use Rattle.std.proofs.Common.{arith}
use Rattle.keep_index_store.proofs.NodeRowLemmas.{links_seen}
use Rattle.keep_index_store.proofs.RemovedRowLemmas.{above_low, ascending, at_low, counted, counts, each, holds}
use Rattle.keep_index_store.proofs.RemovedRowLemmas.{links_fit, rows_gone}
use Rattle.keep_index_store.proofs.nodes.Nodes.remove.Goals as goal

pub remove-gone-requires-clause-small : goal.remove-gone-requires-clause-small
remove-gone-requires-clause-small c = links_fit _ _ _ c.self.view_is c.self.invariant c.requires.small

pub remove-gone-requires-clause-within : goal.remove-gone-requires-clause-within
remove-gone-requires-clause-within c =
    omega (arith, c.requires.leaf.within, links_seen _ _ _ c.self.view_is c.self.invariant)

pub remove_node-requires-clause-within : goal.remove_node-requires-clause-within
remove_node-requires-clause-within c =
    let link = c.remove-gone.ensures.gone in (
      above_low _ _ _ c.self.view_is c.self.invariant _ c.requires.leaf _ link,
      at_low _ _ _ c.self.view_is c.self.invariant _ c.requires.leaf _ link,
    )

pub remove_node-requires-clause-holds : goal.remove_node-requires-clause-holds
remove_node-requires-clause-holds c =
    holds _ _ _ c.self.view_is c.self.invariant _ c.requires.leaf _ c.remove-gone.ensures.gone

pub remove_node-requires-clause-counted : goal.remove_node-requires-clause-counted
remove_node-requires-clause-counted c =
    counted _ _ _ c.self.view_is c.self.invariant _ c.requires.leaf _ c.remove-gone.ensures.gone

pub remove_node-requires-clause-each : goal.remove_node-requires-clause-each
remove_node-requires-clause-each c =
    each _ _ _ c.self.view_is c.self.invariant _ c.requires.leaf _ c.remove-gone.ensures.gone

pub remove_node-requires-clause-ascend : goal.remove_node-requires-clause-ascend
remove_node-requires-clause-ascend c =
    ascending _ _ _ c.self.view_is c.self.invariant _ c.requires.leaf _ c.remove-gone.ensures.gone

pub invariant_of-self : goal.invariant_of-self
invariant_of-self c =
    counts _ _ _ c.self.view_is c.self.invariant c.args.at c.requires.leaf c.remove-gone.result
    c.remove-gone.ensures.gone
    c.remove_node.new.list.items c.remove-gone.new.self c.remove_node.ensures c.remove-gone.ensures.others

pub returns : goal.returns
returns c =
    rows_gone _ _ _ c.self.view_is c.self.invariant c.args.at c.requires.leaf c.remove-gone.result
    c.remove-gone.ensures.gone c.remove_node.new.list.items c.remove-gone.new.self c.remove_node.ensures
    c.remove-gone.ensures.others
