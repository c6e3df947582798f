use Rattle.keep_edit_spec.proofs.Growth.GrowthReached.{growth_reached}
use Rattle.keep_edit_spec.proofs.laws.growth_bound_is_reached.Goals as goal

pub returns : goal.returns
returns c = growth_reached
