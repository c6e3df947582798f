-- The last of those that are left is stored.
use Rattle.std.proofs.Common.{◌∙◌}
use Rattle.keep_index_store.proofs.JoinedLemmas.{last_within, left_stored, left_within}
use Rattle.keep_index_store.proofs.nodes.Nodes.set_all.Goals as goal

pub set_facts-requires : goal.set_facts-requires
set_facts-requires c =
    last_within c.loop-id.self.items c.loop-id.all.items c.pop.new.self.items (c.in-Some.id, c.in-Some.facts)
    c.in-Some.ensures.items c.loop-id.invariant.within

pub loop-id-preserved : goal.loop-id-preserved
loop-id-preserved c = record {
  within =
      left_within c.loop-id.self.items c.loop-id.all.items c.pop.new.self.items (c.in-Some.id, c.in-Some.facts)
      c.in-Some.ensures.items c.set_facts.new.self.items c.set_facts.ensures c.loop-id.invariant.within;
  stored =
      left_stored c.loop-id.self.items c.loop-id.all.items c.pop.new.self.items (c.in-Some.id, c.in-Some.facts)
      c.in-Some.ensures.items c.set_facts.new.self.items c.set_facts.ensures
      ∙ c.loop-id.invariant.stored;
}
