use Rattle.keep_index_store.proofs.RunLemmas.{slice_get-consecutive, slice_get-past}
use Rattle.keep_index_store.proofs.run.child_at.Goals as goal

pub returns-then-number-len : goal.returns-then-number-len
returns-then-number-len c = slice_get-consecutive c.args.first c.args.len c.args.number c.if-number-len.true

pub returns-else-number-len : goal.returns-else-number-len
returns-else-number-len c = slice_get-past c.args.first c.args.len c.args.number c.if-number-len.false
