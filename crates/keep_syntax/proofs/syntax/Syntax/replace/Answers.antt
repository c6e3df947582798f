use Rattle.keep_syntax.proofs.ReplacedTextLaws.{reread_text}
use Rattle.keep_syntax.proofs.syntax.Syntax.replace.Goals as goal

pub returns-in-Ok-clause-of_text : goal.returns-in-Ok-clause-of_text
returns-in-Ok-clause-of_text c = λ d m is h. reread_text c.put_lines.new.self h (c.in-Ok.ensures.read d m is h)
