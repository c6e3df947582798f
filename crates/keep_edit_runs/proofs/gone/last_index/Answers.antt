use Rattle.std.proofs.Common.{arith}
use Rattle.keep_edit_runs.proofs.GoneFound.{last_index_is}
use Rattle.keep_edit_runs.proofs.gone.last_index.Goals as goal

pub returns : goal.returns
returns c =
    last_index_is c.args.path.now c.len-len.result c.index_at.result c.len-len.ensures.count
    (omega (arith, c.if-len-eq0.false)) c.index_at.ensures
