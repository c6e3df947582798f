-- None of the statements so far has a value.
use Rattle.std.proofs.Common.{◌≡◌, length, drop}
use Rattle.keep_syntax.specs.Contract.{statements_of, values_of}
use Rattle.keep_edit_plan.specs.LineNumbers.{next_value}
use Rattle.keep_edit_plan.proofs.insert.numbers.next_value.Given as goal

abbrev pub invariant-loop-number : goal.invariant-loop-number
invariant-loop-number l =
    next_value (length (values_of l.syntax)) (drop l.number (statements_of l.syntax))
    ≡ next_value (length (values_of l.syntax)) (drop l.first (statements_of l.syntax))
