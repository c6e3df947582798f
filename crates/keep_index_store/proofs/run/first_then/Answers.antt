use Rattle.std.proofs.Common.{arith}
use Rattle.keep_index_store.proofs.MovedRunLemmas.{run_grows, run_stays}
use Rattle.keep_index_store.proofs.run.first_then.Goals as goal
use Rattle.keep_index_store.proofs.run.first_then.Goals.{else-len-gt0-via-then-len-gt0+else-first-at}
use Rattle.keep_index_store.proofs.run.first_then.Goals.{else-len-gt0-via-else-len-gt0}

pub returns-then-first-at-clause-run : goal.returns-then-first-at-clause-run
returns-then-first-at-clause-run c =
    run_grows c.args.last c.args.at c.args.first c.args.len c.if-first-at.true (c.requires.within c.if-len-gt0.true)

pub returns-else-len-gt0-clause-run : goal.returns-else-len-gt0-clause-run
returns-else-len-gt0-clause-run c =
    run_stays c.args.last c.args.at c.args.first c.args.len
    (λ some. elim c.else-len-gt0.branch [
      | else-len-gt0-via-then-len-gt0+else-first-at w ↦ omega (arith, w.if-first-at.false)
      | else-len-gt0-via-else-len-gt0 w ↦ absurd (omega (arith, w.if-len-gt0.false, some))
    ])
    c.requires.within c.requires.apart
