use Rattle.std.proofs.Common.{◌≡◌, ◌<◌, ℕ, map, slice_get}
use Rattle.keep_path.specs.Path.{key}
use Rattle.keep_edit_plan.specs.Headers.{key_texts}
use Rattle.keep_edit_runs.proofs.filled_tables.begins_with_keys.Given as goal

abbrev pub invariant-loop-number : goal.invariant-loop-number
invariant-loop-number l =
    (k : ℕ) → k < l.number → slice_get l.path k ≡ slice_get (map key (key_texts l.keys)) k
