use Rattle.std.proofs.Common.{arith}
use Rattle.keep_index_store.proofs.LoweredLemmas.{short_lowered}
use Rattle.keep_index_store.proofs.packed.ShortFacts.lower.Goals as goal

pub shift-requires : goal.shift-requires
shift-requires c = short_lowered c.args.by.now c.requires c.args.self.now (omega arith) (omega arith)
