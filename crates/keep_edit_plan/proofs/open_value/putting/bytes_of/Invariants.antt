use Rattle.std.proofs.Common.{◌≡◌, ◌+◌, drop}
use Rattle.keep_edit_plan.specs.OpenPlaces.{extent}
use Rattle.keep_edit_plan.proofs.open_value.putting.bytes_of.Given as goal

abbrev pub invariant-loop-place : goal.invariant-loop-place
invariant-loop-place l = l.bytes + extent (drop l.place-index l.places) ≡ extent l.places
