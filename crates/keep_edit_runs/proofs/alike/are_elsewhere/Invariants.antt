-- Those so far are elsewhere.
use Rattle.std.specs.List.{AllWithin}
use Rattle.keep_edit_spec.specs.ElementRuns.{IsElsewhere}
use Rattle.keep_edit_runs.specs.Runs.{outlined}
use Rattle.keep_edit_runs.proofs.alike.are_elsewhere.Given as goal

abbrev pub invariant-loop-outline : goal.invariant-loop-outline
invariant-loop-outline l = AllWithin (λ o. IsElsewhere l.path (outlined o)) l.outlines 0 l.outline-index
