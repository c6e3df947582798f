use Rattle.keep_edit_spec.proofs.EditLaws.{append_table_lawful}
use Rattle.keep_edit_spec.proofs.laws.append_table_is_lawful.Goals as goal

pub returns : goal.returns
returns c = append_table_lawful
