use Rattle.std.proofs.Common.{◌≡◌, map, take}
use Rattle.keep_path.specs.Path.{key}
use Rattle.keep_edit_plan.specs.Headers.{key_texts}
use Rattle.keep_edit_runs.specs.Seen.{hashed}
use Rattle.keep_edit_runs.proofs.seen.number_of_keys.Given as goal

abbrev pub invariant-loop-key : goal.invariant-loop-key
invariant-loop-key l = l.hasher ≡ hashed (take l.key-index (map key (key_texts l.keys)))
