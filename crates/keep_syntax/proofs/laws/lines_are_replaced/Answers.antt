use Rattle.keep_syntax.proofs.ReplacedTextLaws.{lines_are_replaced}
use Rattle.keep_syntax.proofs.laws.lines_are_replaced.Goals as goal

pub returns : goal.returns
returns c = lines_are_replaced
