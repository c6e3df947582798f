-- With the steps that are left it is the whole path.
use Rattle.std.proofs.Common.{◌≡◌, ◌≢◌, ◌+◌, ◌++◌, ◌∷◌, [], drop, take}
use Rattle.keep_path.specs.Path.{index}
use Rattle.keep_edit_runs.proofs.gone.with_index.Given as goal

abbrev pub invariant-loop-later : goal.invariant-loop-later
invariant-loop-later l =
    (l.other ≢ []) × (l.other ++ drop l.later l.path ≡ take l.at l.path ++ index l.number ∷ drop (l.at + 1) l.path)
