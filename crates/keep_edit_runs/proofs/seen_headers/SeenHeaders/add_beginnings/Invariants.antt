use Rattle.std.proofs.Common.{◌≡◌, ◌<◌, ◌+◌, ℕ, map, take}
use Rattle.keep_path.specs.Path.{key}
use Rattle.keep_edit_plan.specs.Headers.{key_texts}
use Rattle.keep_edit_runs.specs.SeenHeaders.{HasAppended, HasMore}
use Rattle.keep_edit_runs.specs.SeenPaths.{keys_hashed}
use Rattle.keep_edit_runs.proofs.seen_headers.SeenHeaders.add_beginnings.Given as goal

abbrev pub invariant-loop-own : goal.invariant-loop-own
invariant-loop-own l =
    HasMore l.initial.self l.self × (l.hasher ≡ keys_hashed (take l.own-index (map key (key_texts l.keys))))
    × ((n : ℕ) → n < l.own-index → HasAppended l.self (take (n + 1) (map key (key_texts l.keys))))
