-- None of the arrays so far is above the path.
use Rattle.std.proofs.Common.{◌≡◌, None}
use Rattle.std.specs.List.{AllWithin}
use Rattle.keep_path.specs.Path.{strip}
use Rattle.keep_edit_runs.proofs.gone.first_above.Given as goal

abbrev pub invariant-loop-number : goal.invariant-loop-number
invariant-loop-number l = AllWithin (λ gone. strip gone.array l.path ≡ None) l.arrays 0 l.number
