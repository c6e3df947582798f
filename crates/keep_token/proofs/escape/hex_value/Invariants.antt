-- The value is that of the digits read so far, all of which are digits.
use Rattle.std.proofs.Common.{◌≡◌, ◌^◌, ◌<◌, true, take}
use Rattle.std.specs.List.{list_all}
use Rattle.std.specs.Char.{is_digit}
use Rattle.keep_token.specs.Numbers.{sum_of_digits}
use Rattle.keep_token.proofs.escape.hex_value.Given as goal

abbrev pub invariant-loop-digit : goal.invariant-loop-digit
invariant-loop-digit l = record {
  read : l.value ≡ sum_of_digits 16 (take l.digit-index l.digits);
  digits : list_all (λ c. is_digit c 16) (take l.digit-index l.digits) ≡ true;
  bound : l.value < 16 ^ l.digit-index;
}
