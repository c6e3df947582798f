use Rattle.keep_edit.proofs.document.Document.text_applied.Goals as goal

pub text_by_plan-requires : goal.text_by_plan-requires
text_by_plan-requires c = rw c.as_ref.ensures at c.plan.ensures.of_edit

pub returns-clause-stated : goal.returns-clause-stated
returns-clause-stated c =
    λ s read e is. c.text_by_plan.ensures s read e ((rw c.as_ref.ensures at c.plan.ensures.planned) s read e is)
