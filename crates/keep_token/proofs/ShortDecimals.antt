-- A decimal number of few digits is an integer: it fits into 64 bits.
--
-- Theorem: `short_integer`.
use Rattle.std.proofs.Common.{◌≡◌, ℕ, suc, ◌*◌, ◌^◌, ◌<◌, ◌≤◌, true, not, ◌&&◌, ◌==◌, List, [], ◌∷◌, length, refl, inr}
use Rattle.std.proofs.Common.{arith}
use Rattle.std.proofs.lemmas.Bool.Decides.{nat_tests}
use Rattle.std.proofs.lemmas.Bool.{and_parts}
use Rattle.std.proofs.Math.Nat.{mul-le-mul_right, pow-le-pow_right, pow-suc}
use Rattle.std.specs.Prelude.{nat_le}
use Rattle.std.specs.Char.{is_ascii_digit, digit_value}
use Rattle.std.specs.List.{list_all}
use Rattle.keep_token.specs.Numbers.{sum_of_digits}
use Rattle.keep_token.specs.Words.{is_integer, is_short_decimal}
use Rattle.keep_token.proofs.DecimalLaws.{decimal_at, digit_is, in_range}
use Rattle.keep_token.proofs.NumberLaws.{integer_to}

below_power : (ds : List ℕ) → list_all is_ascii_digit ds ≡ true → sum_of_digits 10 ds < 10 ^ length ds
below_power [] h = omega arith
below_power (d ∷ ds) h =
    let k = and_parts (is_ascii_digit d) (list_all is_ascii_digit ds) h in
    let range = in_range d k.0 in
    let low : digit_value d ≤ 9 = rw (digit_is d range) (omega (arith, range.1)) in
    let here : digit_value d * 10 ^ length ds ≤ 9 * 10 ^ length ds = mul-le-mul_right (10 ^ length ds) low in
    let power : 10 ^ suc (length ds) ≡ 10 ^ length ds * 10 = pow-suc 10 (length ds) in
    omega (arith, below_power ds k.1, here, power)

pub short_integer : (t : List ℕ) → is_short_decimal t ≡ true → is_integer t ≡ true
short_integer [] h = absurd cc
short_integer (d ∷ ds) h =
    let first = and_parts (not (d == 0x30)) (nat_le (length (d ∷ ds)) 18 && list_all is_ascii_digit (d ∷ ds)) h in
    let rest = and_parts (nat_le (length (d ∷ ds)) 18) (list_all is_ascii_digit (d ∷ ds)) first.1 in
    let digit = in_range d (and_parts (is_ascii_digit d) (list_all is_ascii_digit ds) rest.1).0 in
    let above : 48 < d = let no = first.0 in grind (arith, nat_tests) in
    let short : length (d ∷ ds) ≤ 18 = let le = rest.0 in grind (arith, nat_tests) in
    let below : sum_of_digits 10 (d ∷ ds) < 10 ^ length (d ∷ ds) = below_power (d ∷ ds) rest.1 in
    let ten : 0 < 10 = omega arith in
    let power : 10 ^ length (d ∷ ds) ≤ 10 ^ 18 = pow-le-pow_right ten short in
    integer_to (d ∷ ds) (decimal_at (sum_of_digits 10 (d ∷ ds)) d ds rest.1 refl (inr
    above) (record { sfits = omega (arith, below, power) })).0
