use Rattle.keep_edit_runs.specs.KindsRun.{IsRunOn}
use Rattle.keep_edit_runs.proofs.TailRuns.{AreMadeIn}
use Rattle.keep_edit_runs.proofs.before.Before.changes_of_kinds.Given as goal

abbrev pub invariant-loop-number : goal.invariant-loop-number
invariant-loop-number l = AreMadeIn l.edits l.first l.number l.fn.self l.run × IsRunOn l.fn.self l.run
