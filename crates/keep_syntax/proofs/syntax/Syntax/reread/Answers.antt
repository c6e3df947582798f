use Rattle.keep_syntax.proofs.ReplacedTextLaws.{reread_text}
use Rattle.keep_syntax.proofs.syntax.Syntax.reread.Goals as goal

pub returns-in-Ok-clause-of_text : goal.returns-in-Ok-clause-of_text
returns-in-Ok-clause-of_text c = λ d m is h. reread_text c.in-Ok.syntax h (c.in-Ok.ensures d m is h)
