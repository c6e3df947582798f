use Rattle.std.proofs.Common.{◌≡◌, take}
use Rattle.keep_edit_runs.specs.Seen.{hashed}
use Rattle.keep_edit_runs.proofs.seen.hashed.Given as goal

abbrev pub invariant-loop-number : goal.invariant-loop-number
invariant-loop-number l = l.hasher ≡ hashed (take l.number l.path)
