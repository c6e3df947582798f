-- The holder is the node of all steps so far but the one that comes next.
use Rattle.keep_edit_plan.proofs.HolderLaws.{IsGoing}
use Rattle.keep_edit_plan.proofs.document.DocumentRef.holder_of.Given as goal

abbrev pub invariant-loop-len : goal.invariant-loop-len
invariant-loop-len l = IsGoing l.self l.path l.len l.holder
