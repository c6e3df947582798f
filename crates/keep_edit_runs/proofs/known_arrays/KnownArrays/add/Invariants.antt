-- All that it begins with, up to here, is among those.
use Rattle.std.proofs.Common.{◌≡◌, ◌<◌, ℕ, take}
use Rattle.keep_edit_runs.specs.KnownArrays.{GoesOn, HasBeginning}
use Rattle.keep_edit_runs.specs.Seen.{hashed}
use Rattle.keep_edit_runs.proofs.known_arrays.KnownArrays.add.Given as goal

abbrev pub invariant-loop-number : goal.invariant-loop-number
invariant-loop-number l =
    GoesOn l.initial.self l.self × (l.hasher ≡ hashed (take l.number l.array))
    × ((n : ℕ) → n < l.number → HasBeginning l.self (take n l.array))
