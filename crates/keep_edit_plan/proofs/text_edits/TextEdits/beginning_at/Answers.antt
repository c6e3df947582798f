use Rattle.std.proofs.Common.{List, ap, arith, length, subst₂, sym}
use Rattle.keep_edit_spec.specs.TextChanges.{TextChange}
use Rattle.keep_edit_plan.specs.TextEdits.{HasChange, change_of}
use Rattle.keep_edit_plan.proofs.TextEditLaws.{has_change}
use Rattle.keep_edit_plan.proofs.text_edits.TextEdits.beginning_at.Goals as goal

pub returns : goal.returns
returns c =
    let there = c.index-2.result.now in
    subst₂ (λ (changes : List TextChange) t. HasChange changes (change_of t)) c.self.view_is (sym c.index-2.ensures)
    (has_change c.self.inside.edits.items _ there
    (omega (
      arith,
      c.partition_point-after.ensures.bound,
      ap length c.deref.ensures.value,
      c.if-after-eq0.false,
    )))
