use Rattle.keep_edit_spec.proofs.EditLaws.{rename_lawful}
use Rattle.keep_edit_spec.proofs.laws.rename_is_lawful.Goals as goal

pub returns : goal.returns
returns c = rename_lawful
