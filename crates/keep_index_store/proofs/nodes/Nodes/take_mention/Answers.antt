use Rattle.std.proofs.Common.{◌∙◌, ap, arith}
use Rattle.keep_index_store.specs.AllNodes.{with_facts}
use Rattle.keep_index_store.specs.declared.facts.NodeFacts.{NodeFacts}
use Rattle.keep_index_store.specs.DotsLess.{without_mention}
use Rattle.keep_index_store.proofs.NodeRowLemmas.{count_seen, facts_read, facts_set}
use Rattle.keep_index_store.proofs.nodes.Nodes.take_mention.Goals as goal

pub index_mut-node-requires : goal.index_mut-node-requires
index_mut-node-requires c =
    omega (arith, c.requires.within, count_seen _ _ _ c.self.view_is c.self.invariant, c.self.inside.list.ok.0)

pub take_mention-requires-clause-some : goal.take_mention-requires-clause-some
take_mention-requires-clause-some c =
    omega (
      arith,
      c.requires.some,
      ap (λ (t : NodeFacts). t.marks)
          (facts_read _ _ _ c.self.view_is c.self.invariant c.args.id c.requires.within c.index_mut-node.result.now
          c.index_mut-node.ensures.value),
    )

pub returns : goal.returns
returns c =
    facts_set _ _ _ c.self.view_is c.self.invariant c.args.id c.requires.within c.index_mut-node.result.now
    c.take_mention.new.self c.index_mut-node.ensures.value
    ∙ ap (λ (t : NodeFacts). with_facts c.args.self.now.items c.args.id t)
    (c.take_mention.ensures ∙ ap (without_mention c.args.value)
    (facts_read _ _ _ c.self.view_is c.self.invariant c.args.id c.requires.within c.index_mut-node.result.now
    c.index_mut-node.ensures.value))
