use Rattle.keep_edit_spec.proofs.Insert.InsertAddsKeys.{insert_adds_keys}
use Rattle.keep_edit_spec.proofs.laws.insert_adds_keys.Goals as goal

pub returns : goal.returns
returns c = insert_adds_keys
