-- Each of the edits so far leaves the bytes.
use Rattle.std.proofs.Common.{All, take}
use Rattle.keep_edit_plan.specs.SaidSpans.{Leaves}
use Rattle.keep_edit_plan.specs.TextEdits.{change_of}
use Rattle.keep_edit_plan.proofs.text_edits.TextEdits.spare.Given as goal

abbrev pub invariant-loop-edit : goal.invariant-loop-edit
invariant-loop-edit l = All (λ t. Leaves l.bytes (change_of t)) (take l.edit-index l.edit-items)
