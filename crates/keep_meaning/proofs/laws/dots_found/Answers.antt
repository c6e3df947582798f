use Rattle.keep_meaning.proofs.DotsLaws.{dots_are_found}
use Rattle.keep_meaning.proofs.laws.dots_found.Goals as goal

pub returns : goal.returns
returns c = dots_are_found
