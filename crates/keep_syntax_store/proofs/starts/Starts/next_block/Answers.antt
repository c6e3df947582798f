use Rattle.std.proofs.Common.{refl}
use Rattle.keep_syntax_store.proofs.PastLaws.{past_more}
use Rattle.keep_syntax_store.proofs.starts.Starts.next_block.Goals as goal

pub returns-else-number-next-clause-past : goal.returns-else-number-next-clause-past
returns-else-number-next-clause-past c =
    past_more c.args.self.now c.args.number c.min-count.result _ c.args.left.now c.without.result c.requires.past
    c.without.ensures.left c.without.ensures.last refl
