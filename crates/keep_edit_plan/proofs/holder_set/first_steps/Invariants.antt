-- The path has the steps so far.
use Rattle.std.proofs.Common.{◌≡◌, take}
use Rattle.keep_edit_plan.proofs.holder_set.first_steps.Given as goal

abbrev pub invariant-loop-number : goal.invariant-loop-number
invariant-loop-number l = l.first ≡ take l.number l.path
