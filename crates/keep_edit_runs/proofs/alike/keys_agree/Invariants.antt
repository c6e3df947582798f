use Rattle.std.proofs.Common.{length, min}
use Rattle.keep_edit_plan.specs.Headers.{key_texts}
use Rattle.keep_edit_runs.proofs.AlikeLaws.{AgreeFrom}
use Rattle.keep_edit_runs.proofs.alike.keys_agree.Given as goal

abbrev pub invariant-loop-number : goal.invariant-loop-number
invariant-loop-number l =
    AgreeFrom (key_texts l.keys) (key_texts l.more) l.number (min (length l.keys) (length l.more))
