use Rattle.std.proofs.Common.{◌≡◌, map, take}
use Rattle.keep_path.specs.Path.{key}
use Rattle.keep_edit_plan.specs.Headers.{key_texts}
use Rattle.keep_edit_runs.specs.SeenPaths.{keys_hashed}
use Rattle.keep_edit_runs.proofs.seen_paths.number_of_header.Given as goal

abbrev pub invariant-loop-key : goal.invariant-loop-key
invariant-loop-key l = l.hasher ≡ keys_hashed (take l.key-index (map key (key_texts l.keys)))
