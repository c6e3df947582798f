-- The loop keeps that what is written so far, with the rest of the text up to the edit and the edits before it made, is
-- all of that text.
use Rattle.std.proofs.Common.{◌≡◌, List, ◌++◌, string_bytes, slice_range, map, take, sym, subst, ap, ◌∙◌, arith}
use Rattle.keep_edit_spec.specs.TextChanges.{TextChange}
use Rattle.keep_edit_plan.specs.declared.text_edit.TextEdit.{TextEdit}
use Rattle.keep_edit_plan.specs.TextEdits.{IsTextBefore, change_of}
use Rattle.keep_edit_plan.proofs.FreedPlaces.{IsNumbered, all_before, change_within, next_later, next_there}
use Rattle.keep_edit_plan.proofs.FreedPlaces.{none_before, numbered, one_before, there_too}
use Rattle.keep_edit_plan.proofs.TextEditLaws.{IsWrittenTo}
use Rattle.keep_edit_plan.proofs.text_edits.TextEdits.text_before.Goals as goal
use Rattle.keep_edit_plan.proofs.text_edits.TextEdits.text_before.Goals.{After-deref}

-- The edit has the number among the edits that the loop goes over a part of.
one : (c : After-deref) → IsNumbered c.args.text.now c.deref.result.now c.args.number c.index.result.now
one c =
    subst (λ (ts : List TextEdit). IsNumbered c.args.text.now ts c.args.number c.index.result.now)
    (sym c.deref.ensures.value)
    (numbered c.args.text.now c.args.self.now c.self.inside.edits.items c.args.number c.index.result.now c.self.view_is
    c.requires.few c.index.ensures c.requires.within c.self.invariant.0 c.self.invariant.1)

pub loop-edit-init : goal.loop-edit-init
loop-edit-init c =
    let text = c.args.text.now in
    let edits = c.deref.result.now in
    let earlier = take c.args.number edits in
    subst (λ out. IsWrittenTo (take c.index.result.now.place.start text) (map change_of earlier) out 0 earlier)
    (sym c.in_ok-out.ensures.bytes)
    (none_before text edits c.args.number c.index.result.now (one c) c.utf8.text)

pub range-requires-clause-start_le_end : goal.range-requires-clause-start_le_end
range-requires-clause-start_le_end c =
    next_later c.args.text.now c.deref.result.now c.args.number c.index.result.now
    (one (goal.at.range-requires-clause-start_le_end c).After-deref) (string_bytes c.loop-edit.out) c.loop-edit.done
    c.loop-edit.edit-index c.loop-edit.invariant c.edit-item.result c.loop-edit-test.true c.edit-item.is

pub range-requires-clause-start_boundary : goal.range-requires-clause-start_boundary
range-requires-clause-start_boundary c = λ _.
    (there_too c.args.text.now c.deref.result.now c.args.number c.index.result.now
    (one (goal.at.range-requires-clause-start_boundary c).After-deref) c.loop-edit.done
    c.loop-edit.invariant.boundary).1

pub range-requires-clause-end_boundary : goal.range-requires-clause-end_boundary
range-requires-clause-end_boundary c =
    (next_there c.args.text.now c.deref.result.now c.args.number c.index.result.now
    (one (goal.at.range-requires-clause-end_boundary c).After-deref) (string_bytes c.loop-edit.out) c.loop-edit.done
    c.loop-edit.edit-index c.loop-edit.invariant c.edit-item.result c.loop-edit-test.true c.edit-item.is).1

pub loop-edit-preserved : goal.loop-edit-preserved
loop-edit-preserved c =
    let text = c.args.text.now in
    let edit = c.edit-item.result in
    let out = string_bytes c.loop-edit.out in
    let from = c.loop-edit.done in
    let before : string_bytes c.push_str.new.self ≡ out ++ slice_range text from edit.place.start =
    c.in_ok-push_str.ensures.bytes ∙ ap (λ xs. out ++ xs) c.range.ensures.value in
    one_before text c.deref.result.now c.args.number c.index.result.now
    (one (goal.at.loop-edit-preserved c).After-deref) out from c.loop-edit.edit-index c.loop-edit.invariant edit
    c.loop-edit-test.true c.edit-item.is (string_bytes c.push_str-in-loop-edit.new.self)
    (c.in_ok-push_str-2.ensures.bytes
    ∙ ap (λ xs. xs ++ c.as_str.result.now) before
    ∙ ap (λ xs. (out ++ slice_range text from edit.place.start) ++ xs) c.as_str.ensures.value)

pub range-requires-2-clause-start_le_end : goal.range-requires-2-clause-start_le_end
range-requires-2-clause-start_le_end c =
    (there_too c.args.text.now c.deref.result.now c.args.number c.index.result.now
    (one (goal.at.range-requires-2-clause-start_le_end c).After-deref) c.loop-edit.done
    c.loop-edit.invariant.boundary).0

pub range-requires-2-clause-start_boundary : goal.range-requires-2-clause-start_boundary
range-requires-2-clause-start_boundary c = λ _.
    (there_too c.args.text.now c.deref.result.now c.args.number c.index.result.now
    (one (goal.at.range-requires-2-clause-start_boundary c).After-deref) c.loop-edit.done
    c.loop-edit.invariant.boundary).1

pub range-requires-2-clause-end_boundary : goal.range-requires-2-clause-end_boundary
range-requires-2-clause-end_boundary c =
    (change_within c.args.text.now c.deref.result.now c.args.number c.index.result.now
    (one (goal.at.range-requires-2-clause-end_boundary c).After-deref)).starts

pub returns : goal.returns
returns c =
    let all : map change_of c.deref.result.now ≡ c.args.self.now =
    ap (λ (ts : List TextEdit). map change_of ts) c.deref.ensures.value ∙ c.self.view_is in
    subst (λ (changes : List TextChange). IsTextBefore c.args.text.now changes c.args.number
    (string_bytes c.push_str-2.new.self)) all
    (all_before c.args.text.now c.deref.result.now c.args.number c.index.result.now
    (one (goal.at.returns c).After-deref) (string_bytes c.loop-edit.out) c.loop-edit.done c.loop-edit.edit-index
    c.loop-edit.invariant (string_bytes c.push_str-2.new.self) (omega (arith, c.loop-edit-test.false))
    (c.in_ok-push_str-3.ensures.bytes
    ∙ ap (λ xs. string_bytes c.loop-edit.out ++ xs) c.range-2.ensures.value))
