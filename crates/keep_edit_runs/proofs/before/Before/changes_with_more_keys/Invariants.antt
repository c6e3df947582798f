use Rattle.std.specs.Prelude.{IfSome}
use Rattle.keep_edit_runs.specs.KindsRun.{IsRunOn}
use Rattle.keep_edit_runs.specs.MoreKeys.{IsKnownTable, IsPlainRun}
use Rattle.keep_edit_runs.proofs.MoreKeySteps.{AreKeyedIn}
use Rattle.keep_edit_runs.proofs.before.Before.changes_with_more_keys.Given as goal

abbrev pub invariant-loop-number : goal.invariant-loop-number
invariant-loop-number l =
    AreKeyedIn l.edits l.first l.number l.fn.self l.run l.table
    × ((IsRunOn l.fn.self l.run × IsPlainRun l.run) × IfSome l.table (IsKnownTable l.fn.self l.run))
