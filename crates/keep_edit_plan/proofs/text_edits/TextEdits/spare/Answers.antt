-- An edit that neither of the two tests refuses leaves the bytes.
use Rattle.std.proofs.Common.{◌≡◌, ◌+◌, ◌-◌, ◌<◌, List, [], All, map, sym, subst, ap, ◌∙◌, arith, inl, inr}
use Rattle.keep_edit_spec.specs.TextChanges.{IsBeside, change_at}
use Rattle.keep_edit_plan.specs.SaidSpans.{Leaves}
use Rattle.keep_edit_plan.specs.TextEdits.{IsOrdered, change_of}
use Rattle.keep_edit_plan.specs.declared.text_edit.TextEdit.{TextEdit}
use Rattle.keep_edit_plan.proofs.TextEditLaws.{all_changes, all_further}
use Rattle.keep_edit_plan.proofs.text_edits.TextEdits.spare.Goals as goal
use Rattle.keep_edit_plan.proofs.text_edits.TextEdits.spare.Goals.{
  else-start-bytes-via-else-start-bytes,
  else-start-bytes-via-then-start-bytes+else-bytes-end,
  else-start-end-via-else-start-end,
  else-start-end-via-then-start-end+else-end-bytes,
}

pub loop-edit-preserved : goal.loop-edit-preserved
loop-edit-preserved c =
    let bytes = c.args.bytes in
    let edit = c.edit-item.result in
    let edits = c.deref-edit-items.result.now in
    let ordered : IsOrdered edit =
    subst IsOrdered (sym c.edit-item.is)
    (subst (All IsOrdered) (sym c.deref-edit-items.ensures.value) c.self.invariant.1 c.loop-edit.edit-index edit
    c.loop-edit-test.true) in
    let end : edit.place.start + (edit.place.end - edit.place.start) ≡ edit.place.end = omega arith in
    let beside : IsBeside (change_of edit) (change_at bytes.start (bytes.end - bytes.start) []) =
    elim c.else-start-bytes.branch [
      | else-start-bytes-via-then-start-bytes+else-bytes-end w ↦ inl (omega (arith, w.if-bytes-end.false, end))
      | else-start-bytes-via-else-start-bytes w ↦
          inr (omega (arith, w.if-start-bytes.false, c.requires), omega (arith, w.if-start-bytes.false, c.requires))
    ] in
    let after : edit.place.start ≡ bytes.end → 0 < edit.place.end - edit.place.start =
    λ at. elim c.else-start-end.branch [
      | else-start-end-via-then-start-end+else-end-bytes w ↦
          absurd (w.if-end-bytes.false (sym w.if-start-end.true ∙ at))
      | else-start-end-via-else-start-end w ↦ omega (arith, w.if-start-end.false, ordered)
    ] in
    let here : Leaves bytes (change_of edit) = record { beside = beside; after = after } in
    all_further (λ t. Leaves bytes (change_of t)) edits c.loop-edit.edit-index edit c.loop-edit-test.true c.edit-item.is
    c.loop-edit.invariant here

pub returns : goal.returns
returns c =
    λ yes.
    let is : map change_of c.deref-edit-items.result.now ≡ c.args.self.now =
    ap (λ (ts : List TextEdit). map change_of ts) c.deref-edit-items.ensures.value ∙ c.self.view_is in
    all_changes (Leaves c.args.bytes) c.deref-edit-items.result.now c.loop-edit.edit-index c.args.self.now
    (omega (arith, c.loop-edit-test.false, c.loop-edit.auto.edit-index-end)) is c.loop-edit.invariant
