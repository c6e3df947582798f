use Rattle.keep_edit_spec.proofs.EditLaws.{set_lawful}
use Rattle.keep_edit_spec.proofs.laws.set_is_lawful.Goals as goal

pub returns : goal.returns
returns c = set_lawful
