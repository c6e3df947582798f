use Rattle.std.proofs.Common.{◌≡◌}
use Rattle.keep_syntax_store.specs.Left.{places_left}
use Rattle.keep_syntax_store.specs.Starts.{last_to}
use Rattle.keep_syntax_store.proofs.starts.Places.last_to.Given as goal

abbrev pub invariant-places : goal.invariant-places
invariant-places l = last_to l.place l.low (places_left l.self) ≡ last_to l.place l.last (places_left l.at-iterator)
