use Rattle.std.proofs.Common.{refl}
use Rattle.keep_commands.proofs.fault.RunFault.status.Goals as goal

pub returns-in-Memory : goal.returns-in-Memory
returns-in-Memory c = rw c.in-Memory.is refl
