-- The search ends after the last edit that begins where the new one does. That one is at the same place, so both take
-- nothing there. The new one comes `count` edits before the place where the search ends. The edit that it comes before
-- begins at the same byte, so all from that one to the last do, and the edits still follow one another.
use Rattle.std.proofs.Common.{◌≡◌, ◌+◌, ◌-◌, ℕ, List, All, leb, insert, map, is_ok, sym, subst, ap, ◌∙◌, rules, arith}
use Rattle.std.proofs.Common.{eqb-true, true, false, Bool, get_or, ◌<◌, if◌then◌else◌}
use Rattle.std.specs.Prelude.{◌==◌}
use Rattle.std.proofs.lemmas.Fn.{always_returns_same}
use Rattle.std.proofs.lemmas.List.{get_or_read}
use Rattle.std.proofs.lemmas.List.Sorted.{IsPartitionedBy-leb}
use Rattle.keep_edit_spec.specs.TextChanges.{Follow, TextChange}
use Rattle.keep_edit_plan.specs.declared.text_edit.TextEdit.{TextEdit}
use Rattle.keep_edit_plan.specs.TextEdits.{IsOrdered, IsPutAhead, change_of}
use Rattle.keep_edit_plan.proofs.TextEditLaws.{IsPlaceOf, all_insert, both_same, follow_ahead, follow_order}
use Rattle.keep_edit_plan.proofs.TextEditLaws.{place_found, put_ahead, start_of}
use Rattle.keep_edit_plan.proofs.text_edits.TextEdits.add_ahead.Goals as goal

module _ (c : goal.Joined-insert-2) where
  abbrev edits : List TextEdit
  edits = c.self.inside.edits.items

  abbrev number : ℕ
  number = c.partition_point-after.result

  abbrev edit : TextEdit
  edit = c.args.edit

  place_is : IsPlaceOf edit edits number
  place_is =
      let there : Follow 0 (map change_of c.deref.result.now) =
      subst (λ ts. Follow 0 (map change_of ts)) (sym c.deref.ensures.value) c.self.invariant.0 in
      let parted =
      IsPartitionedBy-leb start_of c.deref.result.now edit.place.start (follow_order 0 c.deref.result.now there) in
      let point = c.partition_point-after.ensures.partitioned (λ (t : TextEdit). leb t.place.start edit.place.start)
      (search (rules, always_returns_same)) parted in
      subst (λ ts. IsPlaceOf edit ts number) c.deref.ensures.value
      (place_found edit c.deref.result.now number c.partition_point-after.ensures.bound point)

  abbrev first : ℕ
  first = number - c.args.count

  some : 0 < c.args.count
  some = omega (arith, c.if-count-eq0.false)

  enough : first + c.args.count ≡ number
  enough = omega (arith, c.if-count-after.false)

  -- the one it is put before
  abbrev next : TextEdit
  next = c.index.result.now

  next_is : get_or edits first edit ≡ next
  next_is =
      sym (get_or_read edits first next (omega (arith, place_is.within, some, enough)) c.index.ensures edit)

  start : start_of (get_or edits first edit) ≡ edit.place.start
  start = ap start_of next_is ∙ omega (arith, c.if-index-start.false)

  -- the last that begins there
  abbrev last : TextEdit
  last = c.index-else-index-start.result.now

  last_is : get_or edits (number - 1) edit ≡ last
  last_is =
      sym (get_or_read edits (number - 1) last (omega (arith, place_is.within, some, enough))
      c.index-else-index-start.ensures edit)

  same_end : last.place.end ≡ edit.place.end
  same_end =
      eqb-true last.place.end edit.place.end
      (both_same c.ne.result (last.place.start == edit.place.start) (last.place.end == edit.place.end) c.ne.ensures
      c.if-ne.false).1

  none : edit.place.start ≡ edit.place.end
  none = omega (arith, c.if-start-end.false)

  end : (get_or edits (number - 1) edit).place.end ≡ edit.place.end
  end = ap (λ (t : TextEdit). t.place.end) last_is ∙ same_end

  follow : Follow 0 (map change_of (insert edits first edit))
  follow = follow_ahead edit edits number place_is first c.args.count enough some c.self.invariant.0 none start end

  put : IsPutAhead (map change_of edits) (change_of edit) c.args.count (map change_of (insert edits first edit))
  put = put_ahead edit edits number place_is first c.args.count enough some c.self.invariant.0 none start end

-- what the invariant says
abbrev Kept : List TextEdit → Type 0
Kept ts = Follow 0 (map change_of ts) × All IsOrdered ts

both : (P : List TextEdit → Type 0) (b : Bool) (xs ys : List TextEdit) → P xs → P ys → P (if b then xs else ys)
both P true xs ys h k = h
both P false xs ys h k = k

pub invariant_of-self : goal.invariant_of-self
invariant_of-self c =
    let ordered : All IsOrdered (insert (edits c) (first c) (edit c)) =
    all_insert IsOrdered (edits c) (edit c) (first c) (omega (arith, none c)) c.self.invariant.1 in
    subst Kept (sym c.insert.ensures.items)
    (both Kept (is_ok c.insert.result) (insert (edits c) (first c) (edit c)) (edits c) (follow c, ordered)
    c.self.invariant)

pub returns-clause-put : goal.returns-clause-put
returns-clause-put c =
    let now : IsPutAhead c.args.self.now (change_of (edit c)) c.args.count
    (map change_of (insert (edits c) (first c) (edit c))) =
    subst (λ (old : List TextChange). IsPutAhead old (change_of (edit c)) c.args.count
    (map change_of (insert (edits c) (first c) (edit c)))) c.self.view_is (put c) in
    search (rules, now)
