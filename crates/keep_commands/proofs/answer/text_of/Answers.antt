use Rattle.std.proofs.Common.{sym, subst, string_bytes, IfOk}
use Rattle.keep_commands.specs.Written.{AreBytesOf}
use Rattle.keep_commands.specs.declared.answer.Answer.{Answer}
use Rattle.keep_commands.proofs.AnswerLaws.{lines_text}
use Rattle.keep_commands.proofs.answer.text_of.Goals as goal

pub returns-in-Lines : goal.returns-in-Lines
returns-in-Lines c =
    subst (λ (a : Answer). IfOk c.text.result (λ t. AreBytesOf a (string_bytes t))) (sym c.in-Lines.is)
    (lines_text c.in-Lines.lines c.text.result c.text.ensures.accepted c.text.ensures.lines)
