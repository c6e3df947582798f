-- The joined facts of one more node are made.
use Rattle.std.proofs.Common.{◌∙◌, length}
use Rattle.keep_index_store.proofs.JoinedLemmas.{id_within, one_joined}
use Rattle.keep_index_store.proofs.nodes.Nodes.joined_all.Goals as goal

pub joined_facts-requires : goal.joined_facts-requires
joined_facts-requires c =
    id_within 0 (length c.args.self.now.items) c.args.joins.now c.requires c.loop-join.join-index _
    c.loop-join-test.true

pub loop-join-preserved : goal.loop-join-preserved
loop-join-preserved c =
    c.in_ok-push.ensures.items
    ∙ one_joined c.args.self.now.items c.args.joins.now c.loop-join.join-index _ c.loop-join.all.items
    c.in_ok-joined.joined c.loop-join-test.true c.loop-join.invariant c.in_ok-joined.ensures
