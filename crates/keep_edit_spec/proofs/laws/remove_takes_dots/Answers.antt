use Rattle.keep_edit_spec.proofs.Remove.RemoveTakesDots.{remove_takes_dots}
use Rattle.keep_edit_spec.proofs.laws.remove_takes_dots.Goals as goal

pub returns : goal.returns
returns c = remove_takes_dots
