use Rattle.keep_meaning.proofs.DotsLastLaws.{dots_have_last}
use Rattle.keep_meaning.proofs.laws.dots_last.Goals as goal

pub returns : goal.returns
returns c = dots_have_last
