use Rattle.std.proofs.Common.{List, ap, sym, take, ◌∙◌}
use Rattle.keep_edit_runs.specs.Counts.{sum_at}
use Rattle.keep_edit_runs.specs.declared.counts.Counts.{Counts}
use Rattle.keep_edit_runs.proofs.BlockLaws.{pushed_unless}
use Rattle.keep_edit_runs.proofs.LengthLaws.{none_more}
use Rattle.keep_edit_runs.proofs.counts.LengthCounts.reach.Goals as goal

pub loop-preserved : goal.loop-preserved
loop-preserved c = λ most at.
    ap (λ (cs : List Counts). sum_at (take most cs) at)
    (pushed_unless c.push.result c.push.new.self.items _ _ c.push.ensures.items
    (sym c.is_err.ensures.value ∙ c.if-is_err.false))
    ∙ none_more c.loop.self.counts.items c.new.result c.new.ensures most at
    ∙ c.loop.invariant most at
