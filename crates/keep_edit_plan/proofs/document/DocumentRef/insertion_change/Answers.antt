use Rattle.std.proofs.Common.{inl, inr, subst, sym}
use Rattle.keep_edit_spec.specs.Edits.{insert}
use Rattle.keep_edit_plan.proofs.AnswerLaws.{seen}
use Rattle.keep_edit_plan.proofs.BracketPlaces.{IsInBrackets}
use Rattle.keep_edit_plan.proofs.InsertInsideLaws.{insert_is_inside}
use Rattle.keep_edit_plan.proofs.document.DocumentRef.insertion_change.Goals as goal

pub returns-in-BeforeItem : goal.returns-in-BeforeItem
returns-in-BeforeItem c = λ s read v value there.
    let brackets : IsInBrackets c.args.insertion.spot =
    elim c.in-BeforeItem.is [
      | inl item ↦ subst IsInBrackets (sym item.1) tt
      | inr other ↦
          (elim other [
            | inl entry ↦ subst IsInBrackets (sym entry.1) tt
            | inr empty ↦
                subst IsInBrackets (sym empty.1) tt
          ])
    ] in
    c.inside_change.ensures s read (insert c.args.path.now v)
    (insert_is_inside _ _ _ c.args.path.now s v c.args.value.now c.args.insertion (seen c.self.view_is c.self.invariant)
    read value there c.requires.utf8 brackets)
