use Rattle.std.proofs.Common.{◌≡◌, ◌<◌, ◌+◌, ℕ, take}
use Rattle.keep_edit_runs.specs.Seen.{hashed}
use Rattle.keep_edit_runs.specs.SeenPaths.{HasEnd}
use Rattle.keep_edit_runs.proofs.seen_paths.SeenPaths.lacks_ends_above.Given as goal

abbrev pub invariant-loop-number : goal.invariant-loop-number
invariant-loop-number l =
    (l.hasher ≡ hashed (take l.number l.path))
    × ((n : ℕ) → n < l.number → ¬ HasEnd l.self (take (n + 1) l.path))
