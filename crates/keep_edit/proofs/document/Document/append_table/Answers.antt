use Rattle.keep_edit_spec.specs.Edits.{append_table}
use Rattle.keep_edit.specs.Headers.{key_texts}
use Rattle.keep_edit.proofs.document.Document.append_table.Goals as goal

pub apply_plan-requires : goal.apply_plan-requires
apply_plan-requires c = rw c.as_ref.ensures at c.append_plan.ensures.of_edit

pub returns-clause-done : goal.returns-clause-done
returns-clause-done c =
    λ s read.
    c.apply_plan.ensures.done s read (append_table (key_texts c.args.keys.now))
    ((rw c.as_ref.ensures at c.append_plan.ensures.planned) s read)
