-- The search ends at the place of the edit, since the edits follow one another. The two tests there decide whether it
-- overlaps one: where one fails, so does that the edit is beside that one; where both hold, it is beside each.
use Rattle.std.proofs.Common.{◌≤◌, ◌-◌, List, All, leb, map}
use Rattle.std.proofs.Common.{sym, subst, ap, rules, arith}
use Rattle.std.proofs.lemmas.Fn.{always_returns_same}
use Rattle.std.proofs.lemmas.List.{get_or_read}
use Rattle.std.proofs.lemmas.List.Sorted.{IsPartitionedBy-leb}
use Rattle.keep_edit_spec.specs.TextChanges.{Follow, IsBeside, TextChange}
use Rattle.keep_edit_plan.specs.declared.text_edit.TextEdit.{TextEdit}
use Rattle.keep_edit_plan.specs.TextEdits.{HasRoom, change_of}
use Rattle.keep_edit_plan.proofs.TextEditLaws.{HasLeft, HasRight, IsPlaceOf, follow_order, has_room, left_of_beside}
use Rattle.keep_edit_plan.proofs.TextEditLaws.{place_found, right_of_beside, start_of}
use Rattle.keep_edit_plan.proofs.text_edits.TextEdits.number_for.Goals as goal
use Rattle.keep_edit_plan.proofs.text_edits.TextEdits.number_for.Goals.{
  After-partition_point-number,
  else-number-gt0-via-then-number-gt0+else-index-start,
  else-number-gt0-via-else-number-gt0,
  else-number-len-via-then-number-len+else-index-end,
  else-number-len-via-else-number-len,
}

place_is : (c : After-partition_point-number)
    → IsPlaceOf c.args.edit.now c.self.inside.edits.items c.partition_point-number.result
place_is c =
    let edits = c.deref.result.now in
    let number = c.partition_point-number.result in
    let edit = c.args.edit.now in
    let follow : Follow 0 (map change_of edits) =
    subst (λ ts. Follow 0 (map change_of ts)) (sym c.deref.ensures.value) c.self.invariant.0 in
    let parted = IsPartitionedBy-leb start_of edits edit.place.start (follow_order 0 edits follow) in
    let point = c.partition_point-number.ensures.partitioned (λ (t : TextEdit). leb t.place.start edit.place.start)
    (search (rules, always_returns_same)) parted in
    subst (λ ts. IsPlaceOf edit ts number) c.deref.ensures.value
    (place_found edit edits number c.partition_point-number.ensures.bound point)

-- what the edits are to the new one, if each is beside it
known : (c : After-partition_point-number) → All (λ x. IsBeside x (change_of c.args.edit.now)) c.args.self.now
    → All (λ x. IsBeside x (change_of c.args.edit.now)) (map change_of c.self.inside.edits.items)
known c h =
    subst (λ (xs : List TextChange). All (λ x. IsBeside x (change_of c.args.edit.now)) xs) (sym c.self.view_is) h

pub returns-then-index-start-clause-none : goal.returns-then-index-start-clause-none
returns-then-index-start-clause-none c = λ _ all.
    let at = (goal.at.returns-then-index-start-clause-none c).After-partition_point-number in
    omega (
      arith,
      left_of_beside c.args.edit.now c.self.inside.edits.items c.partition_point-number.result (place_is at)
          (known at all) c.index.result.now c.if-number-gt0.true,
      ap (λ (t : TextEdit). t.place.end) c.index.ensures,
      c.if-index-start.true,
    )

pub returns-then-index-end-clause-none : goal.returns-then-index-end-clause-none
returns-then-index-end-clause-none c = λ _ all.
    let at = (goal.at.returns-then-index-end-clause-none c).After-partition_point-number in
    omega (
      arith,
      right_of_beside c.args.edit.now c.self.inside.edits.items c.partition_point-number.result (place_is at)
          (known at all) c.index-then-number-len.result.now (omega arith),
      ap (λ (t : TextEdit). t.place.start) c.index-then-number-len.ensures,
      c.if-index-end.true,
    )

left : (c : goal.Joined-else-number-len)
    → HasLeft c.args.edit.now c.self.inside.edits.items c.partition_point-number.result
left c d some =
    let place = place_is (goal.at.returns-clause-room c).After-partition_point-number in
    elim c.else-number-gt0.branch [
      | else-number-gt0-via-then-number-gt0+else-index-start w ↦
          subst (λ (t : TextEdit). t.place.end ≤ c.args.edit.now.place.start)
          (get_or_read c.self.inside.edits.items (c.partition_point-number.result - 1) w.index.result.now
          (omega (arith, place.within)) w.index.ensures d) w.if-index-start.false
      | else-number-gt0-via-else-number-gt0 w ↦ absurd (omega (arith, some, w.if-number-gt0.false))
    ]

right : (c : goal.Joined-else-number-len)
    → HasRight c.args.edit.now c.self.inside.edits.items c.partition_point-number.result
right c d some =
    elim c.else-number-len.branch [
      | else-number-len-via-then-number-len+else-index-end w ↦
          subst (λ (t : TextEdit). c.args.edit.now.place.end ≤ t.place.start)
          (get_or_read c.self.inside.edits.items c.partition_point-number.result w.index-then-number-len.result.now
          some w.index-then-number-len.ensures d) w.if-index-end.false
      | else-number-len-via-else-number-len w ↦ absurd (omega (arith, some, w.if-number-len.false))
    ]

pub returns-clause-room : goal.returns-clause-room
returns-clause-room c =
    subst (λ (xs : List TextChange). HasRoom xs (change_of c.args.edit.now) c.partition_point-number.result)
    c.self.view_is
    (has_room c.args.edit.now c.self.inside.edits.items c.partition_point-number.result
    (place_is (goal.at.returns-clause-room c).After-partition_point-number) c.self.invariant.0 (left c) (right c))
