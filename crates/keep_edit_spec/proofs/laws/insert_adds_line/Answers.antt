use Rattle.keep_edit_spec.proofs.Insert.InsertAddsLine.{insert_adds_line}
use Rattle.keep_edit_spec.proofs.laws.insert_adds_line.Goals as goal

pub returns : goal.returns
returns c = insert_adds_line
