use Rattle.keep_meaning.proofs.LineFoundLaws.{line_is_found}
use Rattle.keep_meaning.proofs.laws.line_found.Goals as goal

pub returns : goal.returns
returns c = line_is_found
