-- The search ends after the last edit that begins where the new one does. That one takes bytes from there on, and the
-- new one comes before it. So the edits still follow one another.
use Rattle.std.proofs.Common.{◌≡◌, ◌-◌, ◌<◌, ℕ, List, All, ap, insert, is_ok, length, map, get_or, sym, subst, rules}
use Rattle.std.proofs.Common.{arith, true, false, Bool, if◌then◌else◌}
use Rattle.std.proofs.lemmas.List.{get_or_default}
use Rattle.keep_edit_spec.specs.LinesInPlace.{IsPutBefore}
use Rattle.keep_edit_spec.specs.TextChanges.{Follow, TextChange}
use Rattle.keep_edit_plan.specs.declared.text_edit.TextEdit.{TextEdit}
use Rattle.keep_edit_plan.specs.TextEdits.{IsOrdered, change_of}
use Rattle.keep_edit_plan.proofs.TextEditLaws.{all_insert, follow_put_before, put_before, start_of}
use Rattle.keep_edit_plan.proofs.text_edits.TextEdits.add_before.Goals as goal

module _ (c : goal.Joined-insert-2) where
  abbrev edits : List TextEdit
  edits = c.self.inside.edits.items

  abbrev edit : TextEdit
  edit = c.args.edit

  abbrev number : ℕ
  number = c.partition_point-after.result - 1

  abbrev next : TextEdit
  next = c.index.result.now

  within : number < length edits
  within =
      omega (arith, c.partition_point-after.ensures.bound, ap length c.deref.ensures.value, c.if-after-eq0.false)

  none : edit.place.start ≡ edit.place.end
  none = omega (arith, c.if-start-end.false)

  start : start_of (get_or edits number edit) ≡ edit.place.start
  start =
      omega (
        arith,
        ap start_of (get_or_default edits number next edit within),
        ap start_of c.index.ensures,
        c.if-next-start.false,
      )

  some : edit.place.start < (get_or edits number edit).place.end
  some =
      omega (
        arith,
        ap (λ (t : TextEdit). t.place.end) (get_or_default edits number next edit within),
        ap (λ (t : TextEdit). t.place.end) c.index.ensures,
        c.if-next-start-2.false,
      )

  follow : Follow 0 (map change_of (insert edits number edit))
  follow = follow_put_before edit edits number within none start some c.self.invariant.0

  put : IsPutBefore (map change_of edits) (change_of edit) (map change_of (insert edits number edit))
  put = put_before edit edits number within none start some

-- what the invariant says
abbrev Kept : List TextEdit → Type 0
Kept ts = Follow 0 (map change_of ts) × All IsOrdered ts

both : (P : List TextEdit → Type 0) (b : Bool) (xs ys : List TextEdit) → P xs → P ys → P (if b then xs else ys)
both P true xs ys h k = h
both P false xs ys h k = k

pub invariant_of-self : goal.invariant_of-self
invariant_of-self c =
    let ordered : All IsOrdered (insert (edits c) (number c) (edit c)) =
    all_insert IsOrdered (edits c) (edit c) (number c) (omega (arith, none c)) c.self.invariant.1 in
    subst Kept (sym c.insert.ensures.items)
    (both Kept (is_ok c.insert.result) (insert (edits c) (number c) (edit c)) (edits c) (follow c, ordered)
    c.self.invariant)

pub returns-clause-put : goal.returns-clause-put
returns-clause-put c =
    let now : IsPutBefore c.args.self.now (change_of (edit c)) (map change_of (insert (edits c) (number c) (edit c))) =
    subst (λ (old : List TextChange). IsPutBefore old (change_of (edit c))
    (map change_of (insert (edits c) (number c) (edit c)))) c.self.view_is (put c) in
    search (rules, now)
