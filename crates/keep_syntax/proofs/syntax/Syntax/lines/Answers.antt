use Rattle.keep_syntax.proofs.TouchedLaws.{touched_found}
use Rattle.keep_syntax.proofs.syntax.Syntax.lines.Goals as goal

pub returns : goal.returns
returns c =
    λ d is. touched_found c.args.self.now c.args.span 0 c.last_to.result c.first_from.result c.requires
    c.last_to.ensures c.first_from.ensures d is
