use Rattle.std.proofs.Common.{sym}
use Rattle.keep_edit_runs.proofs.GoneFound.{not_first, step_pushed}
use Rattle.keep_edit_runs.proofs.gone.with_index.Goals as goal

pub push_index-requires : goal.push_index-requires
push_index-requires c =
    not_first c.args.path.now c.in-Ok.other c.args.at c.requires.0 c.len-len.ensures.rooted c.requires.1 c.in-Ok.ensures

pub loop-later-preserved : goal.loop-later-preserved
loop-later-preserved c =
    step_pushed c.loop-later.other c.args.path.now _ c.push_step.new.path c.loop-later.later _
    (sym c.in_ok-step.ensures) c.in-Ok-push_step.ensures c.loop-later.invariant.1
