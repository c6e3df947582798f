use Rattle.keep_edit_spec.specs.Edits.{set}
use Rattle.keep_edit.proofs.EditedLaws.{planned_of}
use Rattle.keep_edit.proofs.document.Document.set.Goals as goal

pub apply_plan-requires : goal.apply_plan-requires
apply_plan-requires c = rw c.as_ref.ensures at c.set_plan.ensures.of_edit

pub returns-clause-done : goal.returns-clause-done
returns-clause-done c =
    λ s read v value.
    c.apply_plan.ensures.done s read (set c.args.path.now v)
    (planned_of s (set c.args.path.now v) _ c.as_ref.ensures (λ k. c.set_plan.ensures.planned s k v value) read)
