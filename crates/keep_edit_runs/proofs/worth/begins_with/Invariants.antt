use Rattle.std.proofs.Common.{◌≤◌, length}
use Rattle.keep_edit_runs.proofs.worth.begins_with.Given as goal

abbrev pub invariant-loop-number : goal.invariant-loop-number
invariant-loop-number l = l.next ≤ length l.keys
