use Rattle.std.proofs.Common.{arith, ◌∙◌}
use Rattle.keep_index_store.proofs.NodeRowLemmas.{count_seen, facts_read}
use Rattle.keep_index_store.proofs.nodes.Nodes.facts.Goals as goal

pub index-requires : goal.index-requires
index-requires c = omega (arith, c.requires, count_seen _ _ _ c.self.view_is c.self.invariant, c.self.inside.list.ok.0)

pub returns : goal.returns
returns c =
    c.unpack.ensures
    ∙ facts_read _ _ _ c.self.view_is c.self.invariant c.args.id c.requires c.index.result.now c.index.ensures
