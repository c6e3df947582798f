-- As many lines are counted as before.
use Rattle.std.proofs.Common.{◌≡◌, ℕ}
use Rattle.keep_edit_runs.specs.Counts.{shorter_at}
use Rattle.keep_edit_runs.proofs.counts.LengthCounts.reach.Given as goal

abbrev pub invariant-loop : goal.invariant-loop
invariant-loop l = (most at : ℕ) → shorter_at l.self most at ≡ shorter_at l.fn.self most at
