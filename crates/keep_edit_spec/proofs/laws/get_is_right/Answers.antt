use Rattle.keep_edit_spec.proofs.Set.SetIsLawful.{get_is_right}
use Rattle.keep_edit_spec.proofs.laws.get_is_right.Goals as goal

pub returns : goal.returns
returns c = get_is_right
