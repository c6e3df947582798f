use Rattle.std.proofs.Common.{◌≡◌, ◌<◌, ℕ, List, Some, slice_get}
use Rattle.keep_path.specs.Path.{key}
use Rattle.keep_edit_runs.specs.SeenPaths.{HasName}
use Rattle.keep_edit_runs.proofs.seen_paths.SeenPaths.misses_names.Given as goal

abbrev pub invariant-loop-number : goal.invariant-loop-number
invariant-loop-number l =
    (n : ℕ) (text : List ℕ) → n < l.number → slice_get l.path n ≡ Some (key text) → ¬ HasName l.self text
