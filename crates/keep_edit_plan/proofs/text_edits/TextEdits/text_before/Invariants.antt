-- What is written so far is what `IsWrittenTo` says of the text up to where the edit with the number begins.
use Rattle.std.proofs.Common.{string_bytes, drop, map, take}
use Rattle.keep_edit_plan.specs.TextEdits.{change_of}
use Rattle.keep_edit_plan.proofs.TextEditLaws.{IsWrittenTo}
use Rattle.keep_edit_plan.proofs.text_edits.TextEdits.text_before.Given as goal

abbrev pub invariant-loop-edit : goal.invariant-loop-edit
invariant-loop-edit l =
    IsWrittenTo (take l.to l.text) (map change_of l.edit-items) (string_bytes l.out) l.done
    (drop l.edit-index l.edit-items)
