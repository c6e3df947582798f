use Rattle.keep_edit_spec.specs.Edits.{append_table}
use Rattle.keep_edit.specs.Headers.{key_texts}
use Rattle.keep_edit.proofs.document.Document.text_with_table.Goals as goal

pub text_by_plan-requires : goal.text_by_plan-requires
text_by_plan-requires c = rw c.as_ref.ensures at c.append_plan.ensures.of_edit

pub returns-clause-stated : goal.returns-clause-stated
returns-clause-stated c =
    λ s read.
    c.text_by_plan.ensures s read (append_table (key_texts c.args.keys.now))
    ((rw c.as_ref.ensures at c.append_plan.ensures.planned) s read)
