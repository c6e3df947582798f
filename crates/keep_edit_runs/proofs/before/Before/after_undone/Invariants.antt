-- The edits before the next pair leave the document as it was.
use Rattle.std.proofs.Common.{◌≡◌, ◌-◌, ◌≤◌, [], length}
use Rattle.keep_edit_runs.specs.Runs.{MakeChanges}
use Rattle.keep_edit_runs.proofs.before.Before.after_undone.Given as goal

abbrev pub decreases-loop-end : goal.decreases-loop-end
decreases-loop-end l = length l.edits - l.end

abbrev pub invariant-loop-end : goal.invariant-loop-end
invariant-loop-end l =
    (l.first ≤ l.end) × (l.end ≤ length l.edits) × MakeChanges l.edits l.first l.end l.fn.self []
    × (l.planner ≡ l.fn.self)
