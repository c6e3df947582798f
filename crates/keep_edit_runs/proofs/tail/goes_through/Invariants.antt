-- The steps of the table so far are the keys.
use Rattle.std.proofs.Common.{◌≡◌, ◌<◌, ℕ, map, slice_get}
use Rattle.keep_path.specs.Path.{key}
use Rattle.keep_edit_plan.specs.Headers.{key_texts}
use Rattle.keep_edit_runs.proofs.tail.goes_through.Given as goal

abbrev pub invariant-loop-number : goal.invariant-loop-number
invariant-loop-number l =
    (k : ℕ) → k < l.number → slice_get l.table k ≡ slice_get (map key (key_texts l.keys)) k
