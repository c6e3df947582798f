use Rattle.std.proofs.Common.{◌∙◌, ap, arith}
use Rattle.keep_index_store.specs.AllNodes.{with_facts}
use Rattle.keep_index_store.specs.declared.facts.NodeFacts.{NodeFacts}
use Rattle.keep_index_store.proofs.NodeRowLemmas.{count_seen, facts_read, facts_set}
use Rattle.keep_index_store.proofs.nodes.Nodes.set_kind.Goals as goal

pub index_mut-node-requires : goal.index_mut-node-requires
index_mut-node-requires c =
    omega (arith, c.requires, count_seen _ _ _ c.self.view_is c.self.invariant, c.self.inside.list.ok.0)

pub returns : goal.returns
returns c =
    let own = c.index_mut-node.result.now in
    let with_kind : NodeFacts → NodeFacts = λ t. record t { kind = c.args.kind } in
    facts_set _ _ _ c.self.view_is c.self.invariant c.args.id c.requires own c.set_kind.new.self
    c.index_mut-node.ensures.value
    ∙ ap (λ (t : NodeFacts). with_facts c.args.self.now.items c.args.id t)
    (c.set_kind.ensures
    ∙ ap with_kind (facts_read _ _ _ c.self.view_is c.self.invariant c.args.id c.requires own
    c.index_mut-node.ensures.value))
