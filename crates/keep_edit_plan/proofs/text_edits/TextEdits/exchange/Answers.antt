-- The edit with that number has the change of the earlier one, so the new one is where that was. It replaces the same
-- bytes, so the edits still follow one another.
use Rattle.std.proofs.Common.{◌≡◌, List, map, set, slice_get, sym, ap, subst, ◌∙◌, arith, eqb-true}
use Rattle.std.proofs.lemmas.List.Elements.{All-set}
use Rattle.keep_edit_spec.specs.TextChanges.{Follow, TextChange}
use Rattle.keep_edit_plan.specs.declared.text_edit.TextEdit.{TextEdit}
use Rattle.keep_edit_plan.specs.TextEdits.{HasInstead, IsOrdered, change_of}
use Rattle.keep_edit_plan.proofs.TextEditLaws.{both_same, follow_replaced, set_instead}
use Rattle.keep_edit_plan.proofs.text_edits.TextEdits.exchange.Goals as goal
use Rattle.keep_edit_plan.proofs.text_edits.TextEdits.exchange.Goals.{After-drop-index_mut}

module _ (c : After-drop-index_mut) where
  abbrev edits : List TextEdit
  edits = c.self.inside.edits.items

  abbrev earlier : TextEdit
  earlier = c.args.earlier.now

  abbrev edit : TextEdit
  edit = c.args.edit

  exchanged : HasInstead (map change_of edits) (change_of earlier) (change_of edit)
      (map change_of (set edits c.in-Some.number edit))
  exchanged =
      set_instead edits c.in-Some.number (change_of earlier) edit
      (ap (λ (changes : List TextChange). slice_get changes c.in-Some.number) c.self.view_is ∙ c.in-Some.ensures)

pub invariant_of-self : goal.invariant_of-self
invariant_of-self c =
    let was = earlier c in
    let edit = edit c in
    let r = exchanged c in
    let (starts, ends) = both_same c.ne.result _ _ c.ne.ensures c.if-ne.false in
    let start : was.place.start ≡ edit.place.start = eqb-true was.place.start edit.place.start starts in
    let end : was.place.end ≡ edit.place.end = eqb-true was.place.end edit.place.end ends in (
      subst (Follow 0) (sym r.is)
          (follow_replaced 0 r.before r.after (change_of was) (change_of edit) start (omega (arith, start, end))
          (subst (Follow 0) r.was c.self.invariant.0)),
      All-set IsOrdered (edits c) c.in-Some.number edit (omega (arith, c.if-edit.false)) c.self.invariant.1,
    )

pub returns-clause-exchanged : goal.returns-clause-exchanged
returns-clause-exchanged c = λ yes.
    subst (λ (old : List TextChange). HasInstead old (change_of c.args.earlier.now) (change_of c.args.edit)
    (map change_of (set c.self.inside.edits.items c.in-Some.number c.args.edit))) c.self.view_is (exchanged c)
