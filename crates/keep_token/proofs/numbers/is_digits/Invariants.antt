use Rattle.std.proofs.Common.{◌≡◌, length}
use Rattle.std.specs.Char.{is_ascii_digit}
use Rattle.keep_token.specs.Numbers as numbers
use Rattle.keep_token.proofs.numbers.is_digits.Given as goal

abbrev pub invariant-loop-rest : goal.invariant-loop-rest
invariant-loop-rest l = numbers.is_digits is_ascii_digit l.rest ≡ numbers.is_digits is_ascii_digit l.bytes

abbrev pub decreases-loop-rest : goal.decreases-loop-rest
decreases-loop-rest l = length l.rest
