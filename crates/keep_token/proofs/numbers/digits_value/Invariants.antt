use Rattle.std.proofs.Common.{length}
use Rattle.keep_token.proofs.ValueLaws.{SoFar}
use Rattle.keep_token.proofs.numbers.digits_value.Given as goal

abbrev pub invariant-loop-digit : goal.invariant-loop-digit
invariant-loop-digit l = SoFar l.base l.digits l.value l.rest

abbrev pub decreases-loop-digit : goal.decreases-loop-digit
decreases-loop-digit l = length l.rest
