use Rattle.std.proofs.Common.{◌≡◌, ◌++◌, drop}
use Rattle.keep_syntax.specs.Contract.{value_values_of}
use Rattle.keep_edit_plan.specs.OpenPlaces.{places_of}
use Rattle.keep_edit_plan.proofs.open_value.places_in.Given as goal

abbrev pub invariant-loop-number : goal.invariant-loop-number
invariant-loop-number l =
    l.places.items ++ places_of l.end (drop l.number (value_values_of l.syntax))
    ≡ places_of 1 (drop 1 (value_values_of l.syntax))
