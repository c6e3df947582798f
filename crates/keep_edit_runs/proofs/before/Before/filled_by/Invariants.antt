use Rattle.keep_edit_runs.proofs.FilledSteps.{AreFilledBy}
use Rattle.keep_edit_runs.proofs.before.Before.filled_by.Given as goal

abbrev pub invariant-loop-number : goal.invariant-loop-number
invariant-loop-number l = AreFilledBy l.edits l.first l.number l.fn.self l.tables
