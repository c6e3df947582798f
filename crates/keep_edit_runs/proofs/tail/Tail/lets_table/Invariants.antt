-- The inserts below the headers so far let the table.
use Rattle.std.proofs.Common.{◌<◌, ℕ}
use Rattle.keep_edit_runs.proofs.BlockLaws.{LetsAt}
use Rattle.keep_edit_runs.proofs.tail.Tail.lets_table.Given as goal

abbrev pub invariant-loop-place : goal.invariant-loop-place
invariant-loop-place l = (k : ℕ) → k < l.place → LetsAt l.self.blocks.items l.number l.table k
