use Rattle.std.proofs.Common.{refl}
use Rattle.keep_commands.proofs.lines.word_of.Goals as goal

pub returns-in-LocalTime : goal.returns-in-LocalTime
returns-in-LocalTime c = rw c.in-LocalTime.is refl
