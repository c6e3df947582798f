use Rattle.keep_edit_runs.proofs.AlikeLaws.{AgreeFrom}
use Rattle.keep_edit_runs.proofs.alike.agree.Given as goal

abbrev pub invariant-loop-number : goal.invariant-loop-number
invariant-loop-number l = AgreeFrom l.path l.other l.number l.count
