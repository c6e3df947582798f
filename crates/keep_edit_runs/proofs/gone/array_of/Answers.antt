use Rattle.keep_edit_runs.proofs.ElementArrays.{array_is}
use Rattle.keep_edit_runs.proofs.gone.array_of.Goals as goal

pub returns : goal.returns
returns c =
    let n = c.in_ok-last_index.field-0 in
    array_is c.args.path.now c.before_last.result n c.before_last.ensures
    ((c.last_index.ensures n).0 c.in_ok-last_index.was)
