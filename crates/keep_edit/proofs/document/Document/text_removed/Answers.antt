use Rattle.keep_edit_spec.specs.Edits.{remove}
use Rattle.keep_edit.proofs.document.Document.text_removed.Goals as goal

pub text_by_plan-requires : goal.text_by_plan-requires
text_by_plan-requires c = rw c.as_ref.ensures at c.remove_plan.ensures.of_edit

pub returns-clause-stated : goal.returns-clause-stated
returns-clause-stated c =
    λ s read.
    c.text_by_plan.ensures s read (remove c.args.path.now)
    ((rw c.as_ref.ensures at c.remove_plan.ensures.planned) s read)
