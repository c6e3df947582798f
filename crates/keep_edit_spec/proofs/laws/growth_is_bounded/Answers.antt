use Rattle.keep_edit_spec.proofs.EditLaws.{growth_bounded}
use Rattle.keep_edit_spec.proofs.laws.growth_is_bounded.Goals as goal

pub returns : goal.returns
returns c = growth_bounded
