use Rattle.std.proofs.Common.{◌≢◌, ◌<◌, ℕ, Some, slice_get}
use Rattle.keep_path.specs.Path.{key}
use Rattle.keep_edit_runs.proofs.alike.lacks_step.Given as goal

abbrev pub invariant-loop-number : goal.invariant-loop-number
invariant-loop-number l = (n : ℕ) → n < l.number → slice_get l.path n ≢ Some (key l.key)
