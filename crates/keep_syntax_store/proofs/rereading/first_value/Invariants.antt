use Rattle.std.proofs.Common.{◌≡◌, length, drop}
use Rattle.keep_syntax_store.specs.Flat.{flat}
use Rattle.keep_syntax_store.specs.Rereading as spec
use Rattle.keep_syntax_store.proofs.rereading.first_value.Given as goal

abbrev pub invariant-statements : goal.invariant-statements
invariant-statements l =
    spec.first_value (length (flat l.parts).values) (drop l.from (flat l.parts).statements)
    ≡ spec.first_value (length (flat l.parts).values) (drop l.number (flat l.parts).statements)
