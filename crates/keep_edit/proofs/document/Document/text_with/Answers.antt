use Rattle.keep_edit_spec.specs.Edits.{set}
use Rattle.keep_edit.proofs.EditedLaws.{planned_of}
use Rattle.keep_edit.proofs.document.Document.text_with.Goals as goal

pub text_by_plan-requires : goal.text_by_plan-requires
text_by_plan-requires c = rw c.as_ref.ensures at c.set_plan.ensures.of_edit

pub returns-clause-stated : goal.returns-clause-stated
returns-clause-stated c =
    λ s read v value.
    c.text_by_plan.ensures s read (set c.args.path.now v)
    (planned_of s (set c.args.path.now v) _ c.as_ref.ensures (λ k. c.set_plan.ensures.planned s k v value) read)
