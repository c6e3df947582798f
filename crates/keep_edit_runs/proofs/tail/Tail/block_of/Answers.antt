use Rattle.std.proofs.Common.{Some, ap, arith, ◌∙◌}
use Rattle.keep_edit_runs.proofs.BlockLaws.{block_there}
use Rattle.keep_edit_runs.proofs.tail.Tail.block_of.Goals as goal

pub returns-then-is_same : goal.returns-then-is_same
returns-then-is_same c =
    block_there c.args.self.now.blocks.items c.loop-number.number c.index.result.now c.args.table.now
    (omega (arith, c.loop-number-test.true, c.len-number-end.ensures)) c.index.ensures
    (c.in-Some.is ∙ ap (λ table. Some table) (c.is_same.ensures.0 c.if-is_same.true))
