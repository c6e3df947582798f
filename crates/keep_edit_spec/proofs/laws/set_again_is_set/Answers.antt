use Rattle.keep_edit_spec.proofs.Lists.SetTwice.{sets_again}
use Rattle.keep_edit_spec.proofs.laws.set_again_is_set.Goals as goal

pub returns : goal.returns
returns c = sets_again
