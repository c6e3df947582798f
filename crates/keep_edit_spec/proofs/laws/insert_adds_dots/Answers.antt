use Rattle.keep_edit_spec.proofs.Insert.InsertAddsDots.{insert_adds_dots}
use Rattle.keep_edit_spec.proofs.laws.insert_adds_dots.Goals as goal

pub returns : goal.returns
returns c = insert_adds_dots
