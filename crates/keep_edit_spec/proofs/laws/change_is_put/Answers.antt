use Rattle.keep_edit_spec.proofs.EditLaws.{change_put}
use Rattle.keep_edit_spec.proofs.laws.change_is_put.Goals as goal

pub returns : goal.returns
returns c = change_put
