-- The edit at the place is found by the search, and the two places are compared. So the new edit comes in the place of
-- one that replaces the same bytes, and the edits still follow one another.
use Rattle.std.proofs.Common.{◌≡◌, ◌-◌, List, map, length, set, sym, ap, subst, ◌∙◌, arith, eqb-true}
use Rattle.std.proofs.lemmas.List.Elements.{All-set}
use Rattle.keep_edit_spec.specs.TextChanges.{Follow, TextChange}
use Rattle.keep_edit_plan.specs.declared.text_edit.TextEdit.{TextEdit}
use Rattle.keep_edit_plan.specs.TextEdits.{IsOrdered, IsReplaced, change_of}
use Rattle.keep_edit_plan.proofs.TextEditLaws.{both_same, follow_replaced, set_in_place}
use Rattle.keep_edit_plan.proofs.text_edits.TextEdits.overwrite.Goals as goal
use Rattle.keep_edit_plan.proofs.text_edits.TextEdits.overwrite.Goals.{After-drop-index_mut}

module _ (c : After-drop-index_mut) where
  abbrev edits : List TextEdit
  edits = c.self.inside.edits.items

  replaced : IsReplaced (map change_of edits) (change_of c.args.edit)
      (map change_of (set edits (c.partition_point-number.result - 1) c.args.edit))
  replaced =
      let (starts, ends) = both_same c.ne.result _ _ c.ne.ensures c.if-ne.false in
      let there = c.index.result.now in
      let start : there.place.start ≡ c.args.edit.place.start =
      eqb-true there.place.start c.args.edit.place.start starts in
      let end : there.place.end ≡ c.args.edit.place.end = eqb-true there.place.end c.args.edit.place.end ends in
      let found = sym c.index.ensures in
      set_in_place edits (c.partition_point-number.result - 1) there c.args.edit
      (omega (arith, c.partition_point-number.ensures.bound, ap length c.deref.ensures.value, c.if-number-eq0.false))
      (ap (λ (t : TextEdit). t.place.start) found ∙ start)
      (ap (λ (t : TextEdit). t.place.end - t.place.start) found ∙ omega (arith, start, end))

pub invariant_of-self : goal.invariant_of-self
invariant_of-self c =
    let edit = c.args.edit in
    let edits = c.self.inside.edits.items in
    let r = replaced c in (
      subst (Follow 0) (sym r.is)
          (follow_replaced 0 r.before r.after r.gone (change_of edit) r.at r.size
          (subst (Follow 0) r.was c.self.invariant.0)),
      All-set IsOrdered edits (c.partition_point-number.result - 1) edit (omega (arith, c.if-start-edit.false))
          c.self.invariant.1,
    )

pub returns-clause-replaced : goal.returns-clause-replaced
returns-clause-replaced c = λ yes.
    subst (λ (old : List TextChange). IsReplaced old (change_of c.args.edit)
    (map change_of (set c.self.inside.edits.items (c.partition_point-number.result - 1) c.args.edit))) c.self.view_is
    (replaced c)
