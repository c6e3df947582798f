use Rattle.std.proofs.Common.{◌≤◌, ◌-◌, length}
use Rattle.keep_syntax_store.specs.Flat.{flat}
use Rattle.keep_syntax_store.specs.Rereading as spec
use Rattle.keep_syntax_store.proofs.rereading.statements_before.Given as goal

abbrev pub invariant-halves : goal.invariant-halves
invariant-halves l = record {
  low : l.low ≤ spec.statements_before l.place (flat l.parts).statements;
  high : spec.statements_before l.place (flat l.parts).statements ≤ l.high;
  within : l.high ≤ length (flat l.parts).statements;
}

abbrev pub decreases-halves : goal.decreases-halves
decreases-halves l = l.high - l.low
