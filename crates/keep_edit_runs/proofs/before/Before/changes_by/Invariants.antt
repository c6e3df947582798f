use Rattle.std.proofs.Common.{◌≡◌, All}
use Rattle.keep_edit_runs.specs.Seen.{IsSeen}
use Rattle.keep_edit_runs.proofs.RunSteps.{AreMadeTo}
use Rattle.keep_edit_runs.proofs.before.Before.changes_by.Given as goal

abbrev pub invariant-loop-number : goal.invariant-loop-number
invariant-loop-number l =
    AreMadeTo l.edits l.first l.number l.fn.self l.so_far.outlines.items l.so_far.changes l.lines
    × All (IsSeen l.keys) l.so_far.outlines.items
    × (l.planner ≡ l.fn.self)
