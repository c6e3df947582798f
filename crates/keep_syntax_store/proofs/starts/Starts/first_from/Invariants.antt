use Rattle.std.proofs.Common.{◌≡◌, length}
use Rattle.keep_syntax_store.specs.Left.{places_left}
use Rattle.keep_syntax_store.specs.Starts.{first_from}
use Rattle.keep_syntax_store.proofs.starts.Starts.first_from.Given as goal

abbrev pub invariant-runs : goal.invariant-runs
invariant-runs l = first_from l.place l.high l.self ≡ first_from l.place l.high (places_left l.left)

abbrev pub decreases-runs : goal.decreases-runs
decreases-runs l = length (places_left l.left)
