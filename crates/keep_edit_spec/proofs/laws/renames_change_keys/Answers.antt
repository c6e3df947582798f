use Rattle.keep_edit_spec.proofs.Lists.StillRenames.{still_renames}
use Rattle.keep_edit_spec.proofs.laws.renames_change_keys.Goals as goal

pub returns : goal.returns
returns c = still_renames
