use Rattle.keep_edit_spec.proofs.Lists.StillRemoves.{still_removes}
use Rattle.keep_edit_spec.proofs.laws.removes_take_lines.Goals as goal

pub returns : goal.returns
returns c = still_removes
