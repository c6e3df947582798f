use Rattle.std.proofs.Common.{◌≡◌, ◌<◌, ◌+◌, ℕ, map, take}
use Rattle.keep_path.specs.Path.{key}
use Rattle.keep_edit_plan.specs.Headers.{key_texts}
use Rattle.keep_edit_runs.specs.SeenHeaders.{HasAppended, HasBrought, HasMore}
use Rattle.keep_edit_runs.specs.SeenPaths.{keys_hashed}
use Rattle.keep_edit_runs.proofs.seen_headers.SeenHeaders.append.Given as goal

abbrev pub invariant-loop-key : goal.invariant-loop-key
invariant-loop-key l =
    HasMore l.initial.self l.self × (l.hasher ≡ keys_hashed (take l.key-index (map key (key_texts l.keys))))
    × ((n : ℕ) → n < l.key-index → (¬ HasBrought l.initial.self (take (n + 1) (map key (key_texts l.keys))))
    × HasAppended l.self (take (n + 1) (map key (key_texts l.keys))))
