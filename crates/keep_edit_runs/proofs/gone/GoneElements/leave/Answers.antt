use Rattle.keep_edit_runs.proofs.GoneFound.{left}
use Rattle.keep_edit_runs.proofs.gone.GoneElements.leave.Goals as goal

pub returns : goal.returns
returns c =
    left c.self.inside.arrays.items c.as_slice.result.now c.of.result c.args.path.now c.args.self.now
    c.array_above.result c.is_none.result c.as_slice.ensures.value c.of.ensures c.self.view_is
    c.array_above.ensures.none c.is_none.ensures
