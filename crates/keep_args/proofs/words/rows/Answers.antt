use Rattle.std.proofs.Common.{refl}
use Rattle.keep_args.proofs.words.rows.Goals as goal

pub returns : goal.returns
returns c = refl
