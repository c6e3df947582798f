use Rattle.std.proofs.Common.{◌≡◌, ◌<◌, ℕ, take}
use Rattle.keep_edit_runs.specs.Seen.{HasPath, hashed}
use Rattle.keep_edit_runs.proofs.seen.SeenKeys.lacks_all_above.Given as goal

abbrev pub invariant-loop-number : goal.invariant-loop-number
invariant-loop-number l =
    (l.hasher ≡ hashed (take l.number l.path)) × ((n : ℕ) → n < l.number → ¬ HasPath l.self (take n l.path))
