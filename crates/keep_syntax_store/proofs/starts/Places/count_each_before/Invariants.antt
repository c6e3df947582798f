use Rattle.std.proofs.Common.{◌≡◌, ◌≤◌, ◌+◌, length}
use Rattle.keep_syntax_store.specs.Left.{places_left}
use Rattle.keep_syntax_store.specs.Rereading.{places_before}
use Rattle.keep_syntax_store.proofs.starts.Places.count_each_before.Given as goal

abbrev pub invariant-places : goal.invariant-places
invariant-places l = record {
  counted : places_before l.place (places_left l.self) ≡ l.number + places_before l.place (places_left l.at-iterator);
  bounded : l.number + length (places_left l.at-iterator) ≤ l.count;
}
