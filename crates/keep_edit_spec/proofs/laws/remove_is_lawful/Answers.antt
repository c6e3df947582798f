use Rattle.keep_edit_spec.proofs.EditLaws.{remove_lawful}
use Rattle.keep_edit_spec.proofs.laws.remove_is_lawful.Goals as goal

pub returns : goal.returns
returns c = remove_lawful
