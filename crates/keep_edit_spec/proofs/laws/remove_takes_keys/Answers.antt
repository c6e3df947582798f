use Rattle.keep_edit_spec.proofs.Remove.RemoveTakesKeys.{remove_takes_keys}
use Rattle.keep_edit_spec.proofs.laws.remove_takes_keys.Goals as goal

pub returns : goal.returns
returns c = remove_takes_keys
