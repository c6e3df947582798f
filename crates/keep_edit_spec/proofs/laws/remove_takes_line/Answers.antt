use Rattle.keep_edit_spec.proofs.Remove.RemoveTakesLine.{remove_takes_line}
use Rattle.keep_edit_spec.proofs.laws.remove_takes_line.Goals as goal

pub returns : goal.returns
returns c = remove_takes_line
