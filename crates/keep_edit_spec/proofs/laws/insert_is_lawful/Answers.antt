use Rattle.keep_edit_spec.proofs.EditLaws.{insert_lawful}
use Rattle.keep_edit_spec.proofs.laws.insert_is_lawful.Goals as goal

pub returns : goal.returns
returns c = insert_lawful
