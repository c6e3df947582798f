use Rattle.std.proofs.Common.{◌≡◌, ◌≤◌, ◌-◌, take, drop}
use Rattle.keep_syntax_store.specs.Left.{places_left}
use Rattle.keep_syntax_store.specs.Starts.{last_of}
use Rattle.keep_syntax_store.proofs.starts.Places.skip_places.Given as goal

abbrev pub invariant-runs : goal.invariant-runs
invariant-runs l = record {
  bounded : l.number ≤ l.count;
  left : places_left l.self ≡ drop l.number (places_left l.fn.self);
  last : l.self.at ≡ last_of l.fn.self.at (take l.number (places_left l.fn.self));
}

abbrev pub decreases-runs : goal.decreases-runs
decreases-runs l = l.count - l.number
