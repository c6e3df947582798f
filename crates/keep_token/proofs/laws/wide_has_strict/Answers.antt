use Rattle.keep_token.proofs.ProfileLaws.{leaf_wider}
use Rattle.keep_token.proofs.laws.wide_has_strict.Goals as goal

pub returns : goal.returns
returns c = leaf_wider
