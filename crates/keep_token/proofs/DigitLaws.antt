-- The number that hexadecimal digits write grows digit by digit, and stays below the power of their count.
--
-- Theorems: `one_more`: the number that the digits write with one more is 16 times the number so far, and the value of
-- the digit; `power_more`: it stays below the power of 16; `power_below`: up to seven digits this is at most
-- `0x1000_0000`, so that one more digit fits into 32 bits.
use Rattle.std.proofs.Common.{◌≡◌, ℕ, zero, suc, ◌+◌, ◌*◌, ◌^◌, ◌<◌, ◌≤◌, true, List, [], ◌∷◌, ◌++◌, length, get_or}
use Rattle.std.proofs.Common.{take, refl, ap, ◌∙◌, arith, length-append}
use Rattle.std.proofs.Math.Nat.{pow-suc}
use Rattle.std.proofs.lemmas.List.{take_more}
use Rattle.std.proofs.lemmas.List.Folds.{list_all_more}
use Rattle.std.proofs.lemmas.Bool.{lt-ltb}
use Rattle.std.specs.List.{list_all}
use Rattle.std.specs.Char.{digit_value, is_digit}
use Rattle.keep_token.specs.Numbers.{sum_of_digits}

rearranged : (a p q s d : ℕ) → q ≡ p * 16 → a * q + (s * 16 + d) ≡ (a * p + s) * 16 + d
rearranged a p q s d e = rw e (omega arith)

-- one more digit
sum_of_digits-push : (xs : List ℕ) (d : ℕ) → sum_of_digits 16 (xs ++ d ∷ []) ≡ sum_of_digits 16 xs * 16 + digit_value d
sum_of_digits-push [] d = omega arith
sum_of_digits-push (x ∷ xs) d =
    let one : length (xs ++ d ∷ []) ≡ suc (length xs) = omega (arith, length-append xs (d ∷ [])) in
    let power : 16 ^ length (xs ++ d ∷ []) ≡ 16 ^ length xs * 16 = ap (λ n. 16 ^ n) one ∙ pow-suc 16 (length xs) in
    ap (λ n. digit_value x * 16 ^ length (xs ++ d ∷ []) + n) (sum_of_digits-push xs d)
    ∙ rearranged (digit_value x) (16 ^ length xs) (16 ^ length (xs ++ d ∷ [])) (sum_of_digits 16 xs) (digit_value d)
    power

pub sum_of_digits_more : (xs : List ℕ) (i : ℕ) → i < length xs
    → sum_of_digits 16 (take (i + 1) xs) ≡ sum_of_digits 16 (take i xs) * 16 + digit_value (get_or xs i 0)
sum_of_digits_more xs i h = ap (sum_of_digits 16) (take_more xs i 0 h) ∙ sum_of_digits-push (take i xs) (get_or xs i 0)

-- seven digits and one more fit 32 bits
pub power_below : (i : ℕ) → i < 8 → 16 ^ i ≤ 0x1000_0000
power_below zero h = omega arith
power_below (suc zero) h = omega arith
power_below (suc (suc zero)) h = omega arith
power_below (suc (suc (suc zero))) h = omega arith
power_below (suc (suc (suc (suc zero)))) h = omega arith
power_below (suc (suc (suc (suc (suc zero))))) h = omega arith
power_below (suc (suc (suc (suc (suc (suc zero)))))) h = omega arith
power_below (suc (suc (suc (suc (suc (suc (suc zero))))))) h = omega arith
power_below (suc (suc (suc (suc (suc (suc (suc (suc i)))))))) h = absurd (omega arith)

pub power_more : (i n d : ℕ) → n < 16 ^ i → d < 16 → n * 16 + d < 16 ^ (i + 1)
power_more i n d h k =
    let one : 16 ^ (i + 1) ≡ 16 ^ i * 16 = ap (λ m. 16 ^ m) (let e : i + 1 ≡ suc i = omega arith in e) ∙ pow-suc 16 i in
    omega (arith, one)

-- one more digit, d: the value and the test of the digits so far
pub one_more : (xs : List ℕ) (i d : ℕ) → i < length xs → d ≡ digit_value (get_or xs i 0) → d < 16
    → list_all (λ c. is_digit c 16) (take i xs) ≡ true
    → (sum_of_digits 16 (take i xs) * 16 + d ≡ sum_of_digits 16 (take (i + 1) xs))
    × (list_all (λ c. is_digit c 16) (take (i + 1) xs) ≡ true)
one_more xs i d h e below all =
    let test : is_digit (get_or xs i 0) 16 ≡ true = lt-ltb (digit_value (get_or xs i 0)) 16 (omega (arith, e)) in
    (omega (arith, sum_of_digits_more xs i h, e), list_all_more (λ c. is_digit c 16) xs i 0 h ∙ (rw (all, test) refl))
