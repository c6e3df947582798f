-- None of the digits in a row but the last can come before an underscore, so the test of the whole is the test of what
-- begins at the last (`skipped`, by induction on how many come before it).
use Rattle.std.proofs.Common.{◌≡◌, ℕ, zero, suc, ◌-◌, ◌<◌, ◌≤◌, true, false, ◌==◌, List, [], ◌∷◌, length, take, drop}
use Rattle.std.proofs.Common.{refl, ap, ◌∙◌, arith}
use Rattle.std.proofs.lemmas.Bool.{and_parts}
use Rattle.std.proofs.lemmas.Bool.Decides.{nat_tests}
use Rattle.std.proofs.lemmas.List.{take_rest}
use Rattle.std.specs.List.{list_all}
use Rattle.std.specs.Char.{is_ascii_digit}
use Rattle.keep_token.specs.Numbers.{is_digits}
use Rattle.keep_token.proofs.numbers.rest_from_last_digit.Goals as goal

digit_is_plain : (c : ℕ) → is_ascii_digit c ≡ true → (c == 0x5F) ≡ false
digit_is_plain c e = grind (arith, nat_tests)

skipped : (m : ℕ) (t : List ℕ) → m < length t → list_all is_ascii_digit (take (suc m) t) ≡ true
    → is_digits is_ascii_digit (drop m t) ≡ is_digits is_ascii_digit t
skipped zero t some all = refl
skipped (suc m) [] some all = absurd (omega arith)
skipped (suc m) (d ∷ []) some all = absurd (omega arith)
skipped (suc m) (d ∷ c ∷ cs) some all =
    let first = and_parts (is_ascii_digit d) (list_all is_ascii_digit (take (suc m) (c ∷ cs))) all in
    let second = and_parts (is_ascii_digit c) (list_all is_ascii_digit (take m cs)) first.1 in
    let plain : (c == 0x5F) ≡ false = digit_is_plain c second.0 in
    skipped m (c ∷ cs) (omega arith) first.1 ∙ (rw (first.0, plain) refl)

-- the bytes from the last of n digits on, and all of them where n is 0
from_last : (n k : ℕ) (t : List ℕ) → n ≤ length t → list_all is_ascii_digit (take n t) ≡ true → k ≡ n - 1
    → is_digits is_ascii_digit (take (length t - k) (drop k t)) ≡ is_digits is_ascii_digit t
from_last zero k t some all e = ap (is_digits is_ascii_digit) (take_rest t k) ∙ (rw e refl)
from_last (suc m) k t some all e =
    let is : k ≡ m = omega (arith, e) in
    ap (is_digits is_ascii_digit) (take_rest t k) ∙ (rw is (skipped m t (omega arith) all))

pub returns : goal.returns
returns c =
    let digits = c.digits_in_blocks-in_a_row in
    from_last digits.result c.saturating_sub.result c.args.bytes.now digits.ensures.within digits.ensures.digits
    c.saturating_sub.ensures
