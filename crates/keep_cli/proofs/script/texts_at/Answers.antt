use Rattle.std.proofs.Common.{rules}
use Rattle.keep_cli.proofs.script.texts_at.Goals as goal

pub returns-in_default-third : goal.returns-in_default-third
returns-in_default-third c = search rules
