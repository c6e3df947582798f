-- What is left of the values tells the last keyval where all of them do, or it is the one so far.
use Rattle.std.proofs.Common.{◌≡◌}
use Rattle.keep_syntax.specs.Contract.{values_of}
use Rattle.keep_edit_plan.specs.Inserting.{last_keyval_among}
use Rattle.keep_edit_plan.proofs.KeyvalSteps.{last_or}
use Rattle.keep_edit_plan.proofs.insert.last_keyval.Given as goal

abbrev pub invariant-loop-number : goal.invariant-loop-number
invariant-loop-number l =
    last_keyval_among l.braces (values_of l.syntax) ≡ last_or l.last l.number l.depth (values_of l.syntax)
