use Rattle.std.proofs.Common.{◌≡◌, take}
use Rattle.keep_edit_runs.specs.SeenPaths.{keys_hashed}
use Rattle.keep_edit_runs.proofs.seen_paths.keys_hashed.Given as goal

abbrev pub invariant-loop-number : goal.invariant-loop-number
invariant-loop-number l = l.hasher ≡ keys_hashed (take l.number l.path)
