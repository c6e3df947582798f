-- What is left of the statements ends the body where all of them do.
use Rattle.std.proofs.Common.{◌≡◌, drop}
use Rattle.keep_syntax.specs.Contract.{statements_of}
use Rattle.keep_edit_spec.specs.Removal as removal
use Rattle.keep_edit_plan.proofs.remove.body_end.Given as goal

abbrev pub invariant-loop-next : goal.invariant-loop-next
invariant-loop-next l =
    removal.body_end l.end (drop l.next (statements_of l.syntax))
    ≡ removal.body_end l.at (drop l.first (statements_of l.syntax))
