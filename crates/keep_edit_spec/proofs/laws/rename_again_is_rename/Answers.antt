use Rattle.keep_edit_spec.proofs.Lists.RenameTwice.{renames_again}
use Rattle.keep_edit_spec.proofs.laws.rename_again_is_rename.Goals as goal

pub returns : goal.returns
returns c = renames_again
