use Rattle.keep_syntax.proofs.ProfileTest.{profile_tested}
use Rattle.keep_syntax.proofs.laws.profile_is_tested.Goals as goal

pub returns : goal.returns
returns c = profile_tested
