use Rattle.std.proofs.Common.{ℕ, ◌<◌, get_or}
use Rattle.keep_edit_runs.specs.declared.outline.Outline.{Outline}
use Rattle.keep_edit_runs.specs.Runs.{LeavesAlone}
use Rattle.keep_edit_runs.proofs.alike.all_leave_alone.Given as goal

abbrev pub invariant-loop-outline : goal.invariant-loop-outline
invariant-loop-outline l = (k : ℕ) (d : Outline) → k < l.outline-index → LeavesAlone (get_or l.outlines k d) l.other
