use Rattle.std.proofs.Common.{◌∙◌, ap, arith}
use Rattle.keep_index_store.specs.AllNodes.{with_facts}
use Rattle.keep_index_store.specs.declared.facts.NodeFacts.{NodeFacts}
use Rattle.keep_index_store.specs.Dots.{with_mention}
use Rattle.keep_index_store.proofs.NodeRowLemmas.{count_seen, facts_read, facts_set}
use Rattle.keep_index_store.proofs.nodes.Nodes.mention.Goals as goal

pub index_mut-node-requires : goal.index_mut-node-requires
index_mut-node-requires c =
    omega (arith, c.requires.within, count_seen _ _ _ c.self.view_is c.self.invariant, c.self.inside.list.ok.0)

pub mention-requires-clause-room : goal.mention-requires-clause-room
mention-requires-clause-room c =
    omega (
      arith,
      c.requires.room,
      ap (λ (t : NodeFacts). t.marks)
          (facts_read _ _ _ c.self.view_is c.self.invariant c.args.id c.requires.within c.index_mut-node.result.now
          c.index_mut-node.ensures.value),
    )

pub returns : goal.returns
returns c =
    facts_set _ _ _ c.self.view_is c.self.invariant c.args.id c.requires.within c.index_mut-node.result.now
    c.mention.new.self c.index_mut-node.ensures.value
    ∙ ap (λ (t : NodeFacts). with_facts c.args.self.now.items c.args.id t)
    (c.mention.ensures ∙ ap (with_mention c.args.value)
    (facts_read _ _ _ c.self.view_is c.self.invariant c.args.id c.requires.within c.index_mut-node.result.now
    c.index_mut-node.ensures.value))
