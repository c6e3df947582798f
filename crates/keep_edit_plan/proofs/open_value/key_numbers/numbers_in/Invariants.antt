use Rattle.std.proofs.Common.{drop}
use Rattle.keep_edit_plan.proofs.KeyNumberLaws.{AreSoFar}
use Rattle.keep_edit_plan.proofs.open_value.key_numbers.numbers_in.Given as goal

-- If all further keys have their numbers among more numbers, all keys have.
abbrev pub invariant-loop-place : goal.invariant-loop-place
invariant-loop-place l = AreSoFar l.text l.places l.numbers l.end (drop l.place-index l.places)
