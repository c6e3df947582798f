use Rattle.std.proofs.Common.{◌∙◌, ap, arith}
use Rattle.indexmap.proofs.MapLemmas.{OnOk-map}
use Rattle.keep_index_store.specs.AllNodes.{with_facts}
use Rattle.keep_index_store.specs.declared.facts.NodeFacts.{NodeFacts}
use Rattle.keep_index_store.specs.Facts.{joined_facts}
use Rattle.keep_index_store.proofs.NodeRowLemmas.{count_seen, facts_read, facts_set}
use Rattle.keep_index_store.proofs.nodes.Nodes.join_facts.Goals as goal

pub index_mut-node-requires : goal.index_mut-node-requires
index_mut-node-requires c =
    omega (arith, c.requires, count_seen _ _ _ c.self.view_is c.self.invariant, c.self.inside.list.ok.0)

pub returns-clause-ok : goal.returns-clause-ok
returns-clause-ok c =
    let own = c.index_mut-node.result.now in
    let joined : NodeFacts → NodeFacts = λ t. record (joined_facts t c.args.more) { role = c.args.role } in
    OnOk-map c.join.result _ _ (λ is.
    facts_set _ _ _ c.self.view_is c.self.invariant c.args.id c.requires own c.join.new.self
    c.index_mut-node.ensures.value
    ∙ ap (λ (t : NodeFacts). with_facts c.args.self.now.items c.args.id t)
    (is ∙ ap joined (facts_read _ _ _ c.self.view_is c.self.invariant c.args.id c.requires own
    c.index_mut-node.ensures.value))) c.join.ensures.ok
