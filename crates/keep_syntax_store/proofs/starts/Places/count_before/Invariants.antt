use Rattle.std.proofs.Common.{◌≡◌, ◌≤◌, ◌+◌, ◌-◌, length}
use Rattle.keep_syntax_store.specs.Left.{places_left}
use Rattle.keep_syntax_store.specs.Rereading.{places_before}
use Rattle.keep_syntax_store.proofs.starts.Places.count_before.Given as goal

abbrev pub invariant-runs : goal.invariant-runs
invariant-runs l = record {
  counted : places_before l.place (places_left l.self) ≡ l.number + places_before l.place (places_left l.left);
  bounded : l.number + length (places_left l.left) ≤ l.count;
}

abbrev pub decreases-runs : goal.decreases-runs
decreases-runs l = l.count - l.number
