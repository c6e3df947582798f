use Rattle.keep_rules.proofs.LastLineLaws.{last_line_is_known}
use Rattle.keep_rules.proofs.laws.last_line_known.Goals as goal

pub returns : goal.returns
returns c = last_line_is_known
