use Rattle.std.proofs.Common.{◌≡◌, ◌<◌, ◌+◌, ℕ, map, take}
use Rattle.keep_path.specs.Path.{key}
use Rattle.keep_edit_plan.specs.Headers.{key_texts}
use Rattle.keep_edit_runs.specs.SeenHeaders.{HasAppended}
use Rattle.keep_edit_runs.specs.SeenPaths.{keys_hashed}
use Rattle.keep_edit_runs.proofs.seen_headers.SeenHeaders.has_beginning.Given as goal

abbrev pub invariant-loop-name : goal.invariant-loop-name
invariant-loop-name l =
    (l.hasher ≡ keys_hashed (take l.name-index (map key (key_texts l.keys))))
    × ((n : ℕ) → n < l.name-index → ¬ HasAppended l.self (take (n + 1) (map key (key_texts l.keys))))
