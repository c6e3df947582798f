use Rattle.keep_edit_spec.proofs.Lists.StillSets.{still_sets}
use Rattle.keep_edit_spec.proofs.laws.sets_change_values.Goals as goal

pub returns : goal.returns
returns c = still_sets
