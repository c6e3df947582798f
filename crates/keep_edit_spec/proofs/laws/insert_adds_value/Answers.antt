use Rattle.keep_edit_spec.proofs.Insert.InsertAddsValue.{insert_adds_value}
use Rattle.keep_edit_spec.proofs.laws.insert_adds_value.Goals as goal

pub returns : goal.returns
returns c = insert_adds_value
