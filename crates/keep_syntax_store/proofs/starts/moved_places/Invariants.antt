use Rattle.std.proofs.Common.{◌≡◌, map, take}
use Rattle.keep_syntax_store.specs.Lifted.{moved}
use Rattle.keep_syntax_store.proofs.starts.moved_places.Given as goal

abbrev pub invariant-places : goal.invariant-places
invariant-places l = l.out.items ≡ map (moved l.old l.new) (take l.at-index l.places)
