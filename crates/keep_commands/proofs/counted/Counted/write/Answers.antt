use Rattle.std.proofs.Common.{rules}
use Rattle.keep_commands.proofs.counted.Counted.write.Goals as goal

pub returns-else-is_err-clause-failed : goal.returns-else-is_err-clause-failed
returns-else-is_err-clause-failed c = search rules
