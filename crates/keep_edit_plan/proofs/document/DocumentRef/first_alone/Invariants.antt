-- So many steps have been passed at least.
use Rattle.std.proofs.Common.{◌≤◌}
use Rattle.keep_edit_plan.proofs.document.DocumentRef.first_alone.Given as goal

abbrev pub invariant-loop-before : goal.invariant-loop-before
invariant-loop-before l = l.body ≤ l.before
