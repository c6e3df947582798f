-- The search ends behind the edits that begin before the place, since the edits follow one another. The last of those
-- takes the bytes before the place and writes none, and a line that says something is at the end of the text before it.
use Rattle.std.proofs.Common.{◌≡◌, ◌-◌, ◌<◌, ◌≤◌, List, [], arith, false, get_or, length, ltb, map, rules, string_bytes}
use Rattle.std.proofs.Common.{subst, sym, true, ap, ◌∙◌, ℕ}
use Rattle.std.proofs.lemmas.Bool.{ltb-true}
use Rattle.std.proofs.lemmas.Fn.{always_returns_same}
use Rattle.std.proofs.lemmas.List.{length-map, nil_from_length}
use Rattle.std.proofs.lemmas.List.Sorted.{IsPartitionedBy-ltb}
use Rattle.std.specs.List.Sorted.{IsPartitionPoint}
use Rattle.keep_edit_spec.specs.SaidLines.{SaysBefore}
use Rattle.keep_edit_spec.specs.TextChanges.{Follow, TextChange}
use Rattle.keep_edit_plan.specs.declared.text_edit.TextEdit.{TextEdit}
use Rattle.keep_edit_plan.specs.TextEdits.{IsFreed, IsTextBefore, change_of}
use Rattle.keep_edit_plan.proofs.FreedPlaces.{IsNumbered, found_says, is_freed, numbered}
use Rattle.keep_edit_plan.proofs.TextEditLaws.{follow_order, start_of}
use Rattle.keep_edit_plan.proofs.text_edits.TextEdits.free_place.Goals as goal
use Rattle.keep_edit_plan.proofs.text_edits.TextEdits.free_place.Goals.{After-drop-before}

module _ (c : After-drop-before) where
  abbrev edits : List TextEdit
  edits = c.self.inside.edits.items

  abbrev after : ℕ
  after = c.partition_point-after.result

  abbrev edit : TextEdit
  edit = c.index-edit.result.now

  -- what is before the edit
  abbrev text : List ℕ
  text = string_bytes c.in-Ok.before

  some : 0 < after
  some = omega (arith, c.if-after-eq0.false)

  within : after ≤ length edits
  within =
      subst (λ (ts : List TextEdit). after ≤ length ts) c.deref.ensures.value c.partition_point-after.ensures.bound

  point : IsPartitionPoint (λ (t : TextEdit). ltb (start_of t) c.args.place ≡ true)
      (λ (t : TextEdit). ltb (start_of t) c.args.place ≡ false) edits after
  point =
      let all = c.deref.result.now in
      let follow : Follow 0 (map change_of all) =
      subst (λ ts. Follow 0 (map change_of ts)) (sym c.deref.ensures.value) c.self.invariant.0 in
      let parted = IsPartitionedBy-ltb start_of all c.args.place (follow_order 0 all follow) in
      subst (λ ts. IsPartitionPoint (λ (t : TextEdit). ltb (start_of t) c.args.place ≡ true)
      (λ (t : TextEdit). ltb (start_of t) c.args.place ≡ false) ts after) c.deref.ensures.value
      (c.partition_point-after.ensures.partitioned (λ (t : TextEdit). ltb t.place.start c.args.place)
      (search (rules, always_returns_same)) parted)

  starts : edit.place.start < c.args.place
  starts =
      let last = get_or edits (after - 1) edit in
      let less : start_of last < c.args.place =
      ltb-true (start_of last) c.args.place (point.0 (after - 1) edit (omega arith) (omega (arith, some))) in
      omega (arith, less, ap start_of c.index-edit.ensures)

  one : IsNumbered c.args.text.now edits (after - 1) edit
  one =
      let long : length edits ≡ length c.args.self.now = sym (length-map edits change_of) ∙ ap length c.self.view_is in
      numbered c.args.text.now c.args.self.now edits (after - 1) edit c.self.view_is
      (omega (arith, some, within, long)) c.index-edit.ensures c.requires c.self.invariant.0 c.self.invariant.1

  freed : c.is_some.result ≡ true → IsFreed c.args.text.now (map change_of edits) c.args.place
  freed found =
      let none : string_bytes edit.new ≡ [] =
      nil_from_length (string_bytes edit.new) (omega (arith, c.if-len-gt0.false, c.len.ensures)) in
      let before : IsTextBefore c.args.text.now (map change_of edits) (after - 1) text =
      subst (λ (changes : List TextChange). IsTextBefore c.args.text.now changes (after - 1) text)
      (sym c.self.view_is) c.in-Ok.ensures in
      let at : c.len-in-Ok.result ≡ length text = omega (arith, c.len-in-Ok.ensures) in
      let says : SaysBefore text (length text) =
      subst (λ (n : ℕ). SaysBefore text n) at
      (subst (λ (bytes : List ℕ). SaysBefore bytes c.len-in-Ok.result) c.as_str.ensures.value
      (found_says c.as_str.result.now c.len-in-Ok.result c.said_line.result c.said_line.ensures
      (sym c.is_some.ensures ∙ found))) in
      is_freed c.args.text.now edits (after - 1) edit one c.args.place text starts c.if-edit-place.false none before
      says

pub returns-in-Ok : goal.returns-in-Ok
returns-in-Ok c = λ yes.
    subst (λ (changes : List TextChange). IsFreed c.args.text.now changes c.args.place) c.self.view_is (freed c yes)
