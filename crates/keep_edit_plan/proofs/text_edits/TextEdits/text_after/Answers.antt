-- The loop keeps that what is written so far, with the rest of the text and its edits made, is the whole.
use Rattle.std.proofs.Common.{◌≡◌, List, ◌++◌, string_bytes, slice_range, All, map, sym, subst, ap, ◌∙◌}
use Rattle.keep_edit_spec.specs.TextChanges.{Follow, TextChange}
use Rattle.keep_edit_plan.specs.declared.text_edit.TextEdit.{TextEdit}
use Rattle.keep_edit_plan.specs.TextEdits.{IsChangeIn, IsOrdered, change_of}
use Rattle.keep_edit_plan.proofs.TextEditLaws.{IsWrittenTo, next_change, none_written, one_written}
use Rattle.keep_edit_plan.proofs.text_edits.TextEdits.text_after.Goals as goal
use Rattle.keep_edit_plan.proofs.text_edits.TextEdits.text_after.Goals.{After-edit-item}

pub loop-edit-init : goal.loop-edit-init
loop-edit-init c =
    let text = c.args.text.now in
    let edits = c.deref-edit-items.result.now in
    let follow = subst (λ ts. Follow 0 (map change_of ts)) (sym c.deref-edit-items.ensures.value) c.self.invariant.0 in
    subst (λ out. IsWrittenTo text (map change_of edits) out 0 edits) (sym c.in_ok-out.ensures.bytes)
    (none_written text edits c.utf8.text follow)

-- the edits that the loop goes over are of this text
changes : (c : After-edit-item) → All (IsChangeIn c.args.text.now) (map change_of c.deref-edit-items.result.now)
changes c =
    let all : map change_of c.deref-edit-items.result.now ≡ c.args.self.now =
    ap (λ (ts : List TextEdit). map change_of ts) c.deref-edit-items.ensures.value ∙ c.self.view_is in
    subst (λ (xs : List TextChange). All (IsChangeIn c.args.text.now) xs) (sym all) c.requires

pub range-requires-clause-end_boundary : goal.range-requires-clause-end_boundary
range-requires-clause-end_boundary c =
    let all = changes (goal.at.range-requires-clause-end_boundary c).After-edit-item in
    (next_change c.args.text.now c.deref-edit-items.result.now (string_bytes c.loop-edit.out) c.loop-edit.from
    c.loop-edit.edit-index c.edit-item.result c.loop-edit-test.true c.edit-item.is c.loop-edit.invariant all).starts

pub loop-edit-preserved : goal.loop-edit-preserved
loop-edit-preserved c =
    let text = c.args.text.now in
    let edit = c.edit-item.result in
    let out = string_bytes c.loop-edit.out in
    let from = c.loop-edit.from in
    let all = changes (goal.at.loop-edit-preserved c).After-edit-item in
    let ordered = subst (λ (ts : List TextEdit). All IsOrdered ts) (sym c.deref-edit-items.ensures.value)
    c.self.invariant.1 in
    let before : string_bytes c.push_str.new.self ≡ out ++ slice_range text from edit.place.start =
    c.in_ok-push_str.ensures.bytes ∙ ap (λ xs. out ++ xs) c.range.ensures.value in
    one_written text c.deref-edit-items.result.now out from c.loop-edit.edit-index edit c.loop-edit-test.true
    c.edit-item.is c.loop-edit.invariant all ordered (string_bytes c.push_str-in-loop-edit.new.self)
    (c.in_ok-push_str-2.ensures.bytes
    ∙ ap (λ xs. xs ++ c.as_str.result.now) before
    ∙ ap (λ xs. (out ++ slice_range text from edit.place.start) ++ xs) c.as_str.ensures.value)
