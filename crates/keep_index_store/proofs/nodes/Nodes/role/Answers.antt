use Rattle.std.proofs.Common.{arith, ◌∙◌, ap}
use Rattle.keep_index_store.specs.declared.facts.NodeFacts.{NodeFacts}
use Rattle.keep_index_store.proofs.NodeRowLemmas.{count_seen, facts_read}
use Rattle.keep_index_store.proofs.nodes.Nodes.role.Goals as goal

pub index-requires : goal.index-requires
index-requires c = omega (arith, c.requires, count_seen _ _ _ c.self.view_is c.self.invariant, c.self.inside.list.ok.0)

pub returns : goal.returns
returns c =
    c.role.ensures
    ∙ ap (λ (t : NodeFacts). t.role)
    (facts_read _ _ _ c.self.view_is c.self.invariant c.args.id c.requires c.index.result.now c.index.ensures)
