-- One table after another.
use Rattle.std.proofs.Common.{◌∙◌}
use Rattle.keep_index_store.proofs.DotsLemmas.{left_mentioned, left_takers, now_takes, now_within}
use Rattle.keep_index_store.proofs.tree.Tree.mention_tables.Goals as goal

pub mention-requires-clause-within : goal.mention-requires-clause-within
mention-requires-clause-within c =
    now_within c.args.value c.loop-id.self c.args.tables.now c.loop-id.id-index _ c.loop-id-test.true
    c.loop-id.invariant.takers

pub mention-requires-clause-takes : goal.mention-requires-clause-takes
mention-requires-clause-takes c =
    now_takes c.args.value c.loop-id.self c.args.tables.now c.loop-id.id-index _ c.loop-id-test.true
    c.loop-id.invariant.takers

pub loop-id-preserved : goal.loop-id-preserved
loop-id-preserved c = record {
  same = c.mention.ensures.same ∙ c.loop-id.invariant.same;
  takers =
      left_takers c.args.value c.loop-id.self c.args.tables.now c.loop-id.id-index _ c.loop-id-test.true
      c.loop-id.invariant.takers c.mention.new.self c.mention.ensures.same c.mention.ensures.infos;
  left =
      left_mentioned c.args.value c.loop-id.self c.args.tables.now c.loop-id.id-index _ c.loop-id-test.true
      c.loop-id.invariant.takers c.mention.new.self c.mention.ensures.same c.mention.ensures.infos
      ∙ c.loop-id.invariant.left;
}
