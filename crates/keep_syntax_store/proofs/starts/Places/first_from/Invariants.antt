use Rattle.std.proofs.Common.{◌≡◌}
use Rattle.keep_syntax_store.specs.Left.{places_left}
use Rattle.keep_syntax_store.specs.Starts.{first_from}
use Rattle.keep_syntax_store.proofs.starts.Places.first_from.Given as goal

abbrev pub invariant-places : goal.invariant-places
invariant-places l =
    first_from l.place l.high (places_left l.self) ≡ first_from l.place l.high (places_left l.at-iterator)
