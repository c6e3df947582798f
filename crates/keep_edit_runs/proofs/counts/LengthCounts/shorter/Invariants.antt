-- The sum is that of the first lengths.
use Rattle.std.proofs.Common.{◌≡◌, take}
use Rattle.keep_edit_runs.specs.Counts.{sum_at}
use Rattle.keep_edit_runs.proofs.counts.LengthCounts.shorter.Given as goal

abbrev pub invariant-loop-number : goal.invariant-loop-number
invariant-loop-number l = l.sum ≡ sum_at (take l.number l.counts) l.at
