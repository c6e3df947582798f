use Rattle.keep_commands.proofs.AnswerLaws.{list_answer}
use Rattle.keep_commands.proofs.answer.list.Goals as goal

pub returns : goal.returns
returns c = λ bytes are. list_answer c.args.document _ bytes c.in_ok-new.ensures are
