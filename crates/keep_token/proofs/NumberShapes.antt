-- No text is of two of these kinds: a float is no integer, and a truth value is neither a float nor an integer.
--
-- Theorems: `float_not_integer`, `boolean_not_integer` and `boolean_not_float`.
use Rattle.std.proofs.Common.{◌≡◌, ℕ, suc, Bool, true, false, ◌&&◌, ◌||◌, ◌==◌, List, [], ◌∷◌, take, refl, sym, subst}
use Rattle.std.proofs.Common.{inl, inr, arith, eqb-true}
use Rattle.std.specs.Prelude.{nat_lt}
use lib.Signed.{mag}
use Rattle.std.proofs.lemmas.Bool.{and_parts, or_cases}
use Rattle.std.proofs.lemmas.Bool.Decides.{nat_tests}
use Rattle.std.specs.List.{prefix_len}
use Rattle.std.specs.Char.{is_ascii_digit}
use Rattle.keep_token.specs.Numbers.{is_decimal, is_digits, is_sign, is_in_base, integer_value}
use Rattle.keep_token.specs.Words.{is_whole, is_number, is_three, is_special, is_float, is_prefixed, is_integer_text}
use Rattle.keep_token.specs.Words.{is_integer, is_boolean}
use Rattle.keep_token.proofs.RunLaws.{tested, prefix_len-all, take_all, drop_all}
use Rattle.keep_token.proofs.NumberLaws.{boolean_from, unsigned_digits, digit_no_sign, digits_first}
use Rattle.keep_token.proofs.FloatLaws.{decimal_whole}

refuted : (b : Bool) → (b ≡ true → ⊥) → b ≡ false
refuted true h = absurd (h refl)
refuted false h = refl

-- ---- a float is no integer

-- a decimal integer has no fraction and no exponent
decimal_no_number : (t : List ℕ) → is_decimal t ≡ true → is_number t ≡ false
decimal_no_number t h = rw (prefix_len-all is_whole t (decimal_whole t h), take_all t, drop_all t, h) refl

three_first : (a : ℕ) (cs : List ℕ) → is_three (a ∷ cs) ≡ true → (a == 0x69 || a == 0x6E) ≡ true
three_first a [] h = absurd cc
three_first a (b ∷ []) h = absurd cc
three_first a (b ∷ c ∷ []) h =
    elim (or_cases ((a == 0x69 && b == 0x6E) && c == 0x66) ((a == 0x6E && b == 0x61) && c == 0x6E) h) [
      | inl k ↦ let i =
          (and_parts (a == 0x69) (b == 0x6E) (and_parts (a == 0x69 && b == 0x6E) (c == 0x66) k).0).0 in rw i refl
      | inr k ↦ let n =
          (and_parts (a == 0x6E) (b == 0x61) (and_parts (a == 0x6E && b == 0x61) (c == 0x6E) k).0).0 in
          grind (arith, nat_tests)
    ]
three_first a (b ∷ c ∷ d ∷ more) h = absurd cc

-- what begins with a digit is no inf and no nan
digit_no_three : (c : ℕ) (cs : List ℕ) → is_ascii_digit c ≡ true → is_three (c ∷ cs) ≡ true → ⊥
digit_no_three c cs digit h = let first = three_first c cs h in grind (arith, nat_tests)

digit_no_special : (c : ℕ) (cs : List ℕ) → is_ascii_digit c ≡ true → is_special (c ∷ cs) ≡ false
digit_no_special c cs digit = rw (digit_no_sign c digit) (refuted (is_three (c ∷ cs)) (digit_no_three c cs digit))

decimal_no_special : (t : List ℕ) → is_decimal t ≡ true → is_special t ≡ false
decimal_no_special [] h = absurd cc
decimal_no_special (c ∷ []) h =
    elim (tested (is_sign c)) [
      | inl e ↦ absurd (let k = rw e at h in cc)
      | inr e ↦ rw e refl
    ]
decimal_no_special (c ∷ d ∷ ds) h =
    elim (tested (is_sign c)) [
      | inl e ↦
          rw e (refuted (is_three (d ∷ ds))
          (digit_no_three d ds (digits_first d ds (unsigned_digits (d ∷ ds) (rw e at h)))))
      | inr e ↦
          rw e (refuted (is_three (c ∷ d ∷ ds))
          (digit_no_three c (d ∷ ds) (digits_first c (d ∷ ds) (unsigned_digits (c ∷ d ∷ ds) (rw e at h)))))
    ]

decimal_no_float : (t : List ℕ) → is_decimal t ≡ true → is_float t ≡ false
decimal_no_float t h = rw (decimal_no_number t h, decimal_no_special t h) refl

-- the letters of the prefixes
abbrev is_letter : ℕ → Bool
is_letter c = (c == 0x78 || c == 0x6F) || c == 0x62

letter_no_digit : (x : ℕ) → is_letter x ≡ true → is_ascii_digit x ≡ true → ⊥
letter_no_digit x h k = grind (arith, nat_tests)

letter_no_decimal : (x : ℕ) (ds : List ℕ) → is_letter x ≡ true → is_digits is_ascii_digit (x ∷ ds) ≡ false
letter_no_decimal x ds h = refuted (is_digits is_ascii_digit (x ∷ ds)) (λ k. letter_no_digit x h (digits_first x ds k))

letter_whole : (x : ℕ) → is_letter x ≡ true → (is_whole x ≡ true) × ((x == 0x5F) ≡ false)
letter_whole x h = (grind (arith, nat_tests), grind (arith, nat_tests))

letter_no_float : (x : ℕ) (ds : List ℕ) → is_letter x ≡ true → is_float (0x30 ∷ x ∷ ds) ≡ false
letter_no_float x ds h =
    let (whole, plain) = letter_whole x h in
    let n : prefix_len is_whole (0x30 ∷ x ∷ ds) ≡ suc (suc (prefix_len is_whole ds)) = rw whole (omega arith) in
    rw (n, plain, letter_no_decimal x (take (prefix_len is_whole ds) ds) h) (digit_no_special 0x30 (x ∷ ds) refl)

prefixed_letter : (base letter : ℕ) (t : List ℕ) → is_letter letter ≡ true → is_prefixed base letter t ≡ true
    → is_float t ≡ false
prefixed_letter base letter [] is h = absurd cc
prefixed_letter base letter (z ∷ []) is h = absurd cc
prefixed_letter base letter (z ∷ x ∷ ds) is h =
    let (prefix, digits) = and_parts (z == 0x30 && x == letter) (is_digits (is_in_base base) ds) h in
    let (nought, same) = and_parts (z == 0x30) (x == letter) prefix in
    let letter_is : is_letter x ≡ true = rw (eqb-true x letter same) is in
    subst (λ (c : ℕ). is_float (c ∷ x ∷ ds) ≡ false) (sym (eqb-true z 0x30 nought)) (letter_no_float x ds letter_is)

integer_text_no_float : (t : List ℕ) → is_integer_text t ≡ true → is_float t ≡ false
integer_text_no_float t h =
    elim (or_cases (is_decimal t) (is_prefixed 16 0x78 t || (is_prefixed 8 0x6F t || is_prefixed 2 0x62 t)) h) [
      | inl d ↦ decimal_no_float t d
      | inr k ↦ elim (or_cases (is_prefixed 16 0x78 t) (is_prefixed 8 0x6F t || is_prefixed 2 0x62 t) k) [
        | inl d ↦ prefixed_letter 16 0x78 t refl d
        | inr m ↦ elim (or_cases (is_prefixed 8 0x6F t) (is_prefixed 2 0x62 t) m) [
          | inl d ↦ prefixed_letter 8 0x6F t refl d
          | inr d ↦ prefixed_letter 2 0x62 t refl d
        ]
      ]
    ]

integer_text_is : (t : List ℕ) → is_integer t ≡ true → is_integer_text t ≡ true
integer_text_is t h = (and_parts (is_integer_text t) (nat_lt (mag (integer_value t)) 0x8000_0000_0000_0000) h).0

pub float_not_integer : (t : List ℕ) → is_float t ≡ true → is_integer t ≡ false
float_not_integer t h = refuted (is_integer t) (λ k. let e = integer_text_no_float t (integer_text_is t k) in cc)

-- ---- a truth value is no number

pub boolean_not_integer : (t : List ℕ) → is_boolean t ≡ true → is_integer t ≡ false
boolean_not_integer t h =
    elim (boolean_from t h) [
      | inl e ↦ rw e refl
      | inr e ↦ rw e refl
    ]

pub boolean_not_float : (t : List ℕ) → is_boolean t ≡ true → is_float t ≡ false
boolean_not_float t h =
    elim (boolean_from t h) [
      | inl e ↦ rw e refl
      | inr e ↦ rw e refl
    ]
