use Rattle.std.proofs.Common.{◌≡◌, ◌<◌, ℕ, List, Some, slice_get}
use Rattle.keep_path.specs.Path.{key}
use Rattle.keep_edit_runs.specs.SeenPaths.{GoesOn, HasKey}
use Rattle.keep_edit_runs.proofs.seen_paths.SeenPaths.add_keys.Given as goal

abbrev pub invariant-loop-number : goal.invariant-loop-number
invariant-loop-number l =
    GoesOn l.initial.self l.self
    × ((n : ℕ) (text : List ℕ) → n < l.number → slice_get l.path n ≡ Some (key text) → HasKey l.self text)
