use Rattle.keep_syntax.proofs.WholeLaws.{one_value}
use Rattle.keep_syntax.proofs.laws.one_value.Goals as goal

pub returns : goal.returns
returns c = one_value
