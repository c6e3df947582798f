use Rattle.std.proofs.Common.{◌≡◌, length}
use Rattle.keep_syntax_store.specs.Left.{places_left}
use Rattle.keep_syntax_store.specs.Starts.{last_to}
use Rattle.keep_syntax_store.proofs.starts.Starts.last_to.Given as goal

abbrev pub invariant-runs : goal.invariant-runs
invariant-runs l = last_to l.place l.low l.self ≡ last_to l.place l.last (places_left l.left)

abbrev pub decreases-runs : goal.decreases-runs
decreases-runs l = length (places_left l.left)
