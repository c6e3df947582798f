use Rattle.std.proofs.Common.{◌≡◌, ◌<◌, ◌+◌, ℕ, map, take}
use Rattle.keep_path.specs.Path.{key}
use Rattle.keep_edit_plan.specs.Headers.{key_texts}
use Rattle.keep_edit_runs.specs.Seen.{hashed}
use Rattle.keep_edit_runs.specs.SeenPaths.{GoesOn, HasBeginning}
use Rattle.keep_edit_runs.proofs.seen_paths.SeenPaths.add_names.Given as goal

abbrev pub invariant-loop-key : goal.invariant-loop-key
invariant-loop-key l =
    GoesOn l.initial.self l.self × (l.hasher ≡ hashed (take l.key-index (map key (key_texts l.keys))))
    × ((n : ℕ) → n < l.key-index → HasBeginning l.self (take (n + 1) (map key (key_texts l.keys))))
