use Rattle.std.proofs.Common.{refl, sym, subst}
use Rattle.keep_edit.specs.Answers.{entries_of}
use Rattle.keep_commands.specs.Answer.{lines_of}
use Rattle.keep_commands.specs.Written.{AreBytesOf}
use Rattle.keep_commands.specs.declared.answer.Answer.{Answer}
use Rattle.keep_commands.proofs.write.write_answer.Goals as goal

pub returns-in-Lines-clause-writes : goal.returns-in-Lines-clause-writes
returns-in-Lines-clause-writes g c =
    let (s, read) = c.write_lines.ensures.accepted in (
      lines_of (entries_of s),
      subst (λ (a : Answer). AreBytesOf a (lines_of (entries_of s))) (sym c.in-Lines.is) (s, read, refl),
      c.write_lines.ensures.writes s read,
    )
