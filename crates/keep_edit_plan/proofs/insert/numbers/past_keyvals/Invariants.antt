-- All statements so far are keyvals.
use Rattle.std.proofs.Common.{◌≡◌, ◌+◌, drop}
use Rattle.keep_syntax.specs.Contract.{statements_of}
use Rattle.keep_edit_spec.specs.Insertion.{body_count}
use Rattle.keep_edit_plan.proofs.insert.numbers.past_keyvals.Given as goal

abbrev pub invariant-loop-number : goal.invariant-loop-number
invariant-loop-number l =
    (l.end ≡ l.number) × (l.number + body_count (drop l.number (statements_of l.syntax)) ≡ l.first
    + body_count (drop l.first (statements_of l.syntax)))
