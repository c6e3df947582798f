-- No array has a path that this one begins with, up to here.
use Rattle.std.proofs.Common.{◌≡◌, ◌<◌, ℕ, take}
use Rattle.keep_edit_runs.specs.KnownArrays.{HasPath}
use Rattle.keep_edit_runs.specs.Seen.{hashed}
use Rattle.keep_edit_runs.proofs.known_arrays.KnownArrays.above.Given as goal

abbrev pub invariant-loop-number : goal.invariant-loop-number
invariant-loop-number l =
    (l.hasher ≡ hashed (take l.number l.path)) × ((n : ℕ) → n < l.number → ¬ HasPath l.self (take n l.path))
