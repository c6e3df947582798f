use Rattle.std.proofs.Common.{arith}
use Rattle.keep_index_store.proofs.RunLemmas.{consecutive-push}
use Rattle.keep_index_store.proofs.run.longer.Goals as goal

pub returns-clause-run : goal.returns-clause-run
returns-clause-run c =
    consecutive-push c.args.first c.args.len c.in_ok-checked_add.field-0 c.args.child (omega arith)
    c.in_ok-checked_add.ensures.1
