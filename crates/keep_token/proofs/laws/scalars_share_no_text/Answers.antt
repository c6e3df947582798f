use Rattle.keep_token.proofs.ScalarLaws.{scalars_disjoint}
use Rattle.keep_token.proofs.laws.scalars_share_no_text.Goals as goal

pub returns : goal.returns
returns c = scalars_disjoint
