use Rattle.keep_edit_spec.proofs.EditLaws.{append_element_lawful}
use Rattle.keep_edit_spec.proofs.laws.append_element_is_lawful.Goals as goal

pub returns : goal.returns
returns c = append_element_lawful
