use Rattle.keep_edit_spec.specs.Edits.{remove}
use Rattle.keep_edit.proofs.document.Document.remove.Goals as goal

pub apply_plan-requires : goal.apply_plan-requires
apply_plan-requires c = rw c.as_ref.ensures at c.remove_plan.ensures.of_edit

pub returns-clause-done : goal.returns-clause-done
returns-clause-done c =
    λ s read.
    c.apply_plan.ensures.done s read (remove c.args.path.now)
    ((rw c.as_ref.ensures at c.remove_plan.ensures.planned) s read)
