use Rattle.std.proofs.Common.{◌-◌, arith, sym}
use Rattle.keep_index_store.proofs.RunLemmas.{get_or-consecutive}
use Rattle.keep_index_store.proofs.run.last_child.Goals as goal

pub returns-clause-some : goal.returns-clause-some
returns-clause-some c = (omega arith, sym (get_or-consecutive c.args.first c.args.len (c.args.len - 1) 0 (omega arith)))
