use Rattle.keep_edit_spec.proofs.Lists.RemoveUndoesInsert.{remove_undoes_insert}
use Rattle.keep_edit_spec.proofs.laws.remove_undoes_insert.Goals as goal

pub returns : goal.returns
returns c = remove_undoes_insert
