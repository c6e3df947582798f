use Rattle.keep_edit.proofs.document.Document.apply.Goals as goal

pub apply_plan-requires : goal.apply_plan-requires
apply_plan-requires c = rw c.as_ref.ensures at c.plan.ensures.of_edit

pub returns-clause-done : goal.returns-clause-done
returns-clause-done c =
    λ s read e is. c.apply_plan.ensures.done s read e ((rw c.as_ref.ensures at c.plan.ensures.planned) s read e is)
