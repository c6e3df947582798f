use Rattle.keep_edit.proofs.document.Document.str_value.Goals as goal

pub text_found-requires : goal.text_found-requires
text_found-requires c = (c.args.path.now, rw c.as_ref.ensures at c.value_number.ensures)
