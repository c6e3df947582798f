use Rattle.std.proofs.Common.{arith}
use Rattle.keep_index_store.proofs.LastChildLemmas.{none_after}
use Rattle.keep_index_store.proofs.nodes.Nodes.none_below_after.Goals as goal

pub returns : goal.returns
returns c _ =
    none_after c.args.self.now.items c.requires.stored c.args.id c.args.end
    (λ i from to. c.loop-node.invariant i from (omega (arith, to, c.loop-node-test.false)))
