-- The steps so far lead to no value.
use Rattle.keep_edit_plan.proofs.InsideLaws.{NoneYet}
use Rattle.keep_edit_plan.proofs.document.DocumentRef.inside_change.Given as goal

abbrev pub invariant-loop-len : goal.invariant-loop-len
invariant-loop-len l = NoneYet l.self l.path l.len
