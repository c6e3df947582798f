-- What is written so far is what `IsWrittenTo` says.
use Rattle.std.proofs.Common.{string_bytes, drop, map}
use Rattle.keep_edit_plan.specs.TextEdits.{change_of}
use Rattle.keep_edit_plan.proofs.TextEditLaws.{IsWrittenTo}
use Rattle.keep_edit_plan.proofs.text_edits.TextEdits.text_after.Given as goal

abbrev pub invariant-loop-edit : goal.invariant-loop-edit
invariant-loop-edit l =
    IsWrittenTo l.text (map change_of l.edit-items) (string_bytes l.out) l.from (drop l.edit-index l.edit-items)
