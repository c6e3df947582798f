-- The edit is elsewhere than in those so far.
use Rattle.std.specs.List.{AllWithin}
use Rattle.keep_edit_spec.specs.ElementRuns.{IsElsewhere}
use Rattle.keep_edit_runs.specs.Runs.{outlined}
use Rattle.keep_edit_runs.proofs.gone_between.GoneBetween.leave_alone.Given as goal

abbrev pub invariant-loop-array : goal.invariant-loop-array
invariant-loop-array l =
    AllWithin (λ array. IsElsewhere array (outlined l.outline)) l.array-items 0 l.array-index
