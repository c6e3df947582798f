use Rattle.keep_edit_spec.proofs.Remove.RemoveTakesValue.{remove_takes_value}
use Rattle.keep_edit_spec.proofs.laws.remove_takes_value.Goals as goal

pub returns : goal.returns
returns c = remove_takes_value
