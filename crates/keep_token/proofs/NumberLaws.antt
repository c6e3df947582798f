-- The tests of integers and of truth values decide their languages.
--
-- Theorems: `integer_from`: a text that passes the test is an integer; `integer_to`: an integer passes the test; and
-- the same two of truth values.
use Rattle.std.proofs.Common.{◌≡◌, ℕ, true, false, not, cond, ◌&&◌, ◌||◌, ◌==◌, List, [], ◌∷◌, length, refl, inl, inr}
use Rattle.std.proofs.Common.{arith, eqb-true}
use Rattle.std.specs.Prelude.{nat_lt, slice_index}
use lib.Signed.{mag}
use Rattle.std.proofs.lemmas.Bool.{and_parts, and_from, or_right, or_cases, lt-ltb, ltb-true}
use Rattle.std.proofs.lemmas.Bool.Decides.{nat_tests}
use Rattle.std.specs.Char.{is_ascii_digit}
use Rattle.keep_token.specs.Numbers.{Decimal, Unsigned, Prefixed, IntegerText, Integer, Boolean, is_decimal, is_digits}
use Rattle.keep_token.specs.Numbers.{is_unsigned, is_sign, is_in_base, integer_value}
use Rattle.keep_token.specs.Words.{is_prefixed, is_integer_text, is_integer, is_boolean}
use Rattle.keep_token.proofs.RunLaws.{tested}

-- ---- decimal integers of any size

-- the first byte of digits is a digit
pub digits_first : (d : ℕ) (ds : List ℕ) → is_digits is_ascii_digit (d ∷ ds) ≡ true → is_ascii_digit d ≡ true
digits_first d [] h = h
digits_first d (c ∷ cs) h =
    (and_parts (is_ascii_digit d) (cond (c == 0x5F) (is_digits is_ascii_digit cs) (is_digits is_ascii_digit (c ∷ cs)))
    h).0

pub unsigned_from : (t : List ℕ) → is_unsigned t ≡ true → Unsigned t
unsigned_from [] h = absurd cc
unsigned_from (d ∷ []) h =
    let (digit, rest) = and_parts (is_ascii_digit d) true h in
    inl (d, refl, digit)
unsigned_from (d ∷ c ∷ cs) h =
    let (digits, rest) =
    and_parts (is_digits is_ascii_digit (d ∷ c ∷ cs)) (length (d ∷ c ∷ cs) == 1 || not (d == 0x30)) h in
    let digit = digits_first d (c ∷ cs) digits in
    inr (digits, omega arith, grind (arith, nat_tests))

pub unsigned_to : (t : List ℕ) → Unsigned t → is_unsigned t ≡ true
unsigned_to t (inl (c, e, digit)) = rw (e, digit) refl
unsigned_to [] (inr h) = absurd (omega (arith, h.1))
unsigned_to (d ∷ []) (inr h) = absurd (omega (arith, h.1))
unsigned_to (d ∷ c ∷ cs) (inr h) =
    let first : not (d == 0x30) ≡ true = let k = h.2 in grind (arith, nat_tests) in
    and_from (is_digits is_ascii_digit (d ∷ c ∷ cs)) (length (d ∷ c ∷ cs) == 1 || not (d == 0x30)) h.0
    (or_right (length (d ∷ c ∷ cs) == 1) (not (d == 0x30)) first)

pub decimal_from : (t : List ℕ) → is_decimal t ≡ true → Decimal t
decimal_from [] h = absurd cc
decimal_from (c ∷ cs) h =
    elim (tested (is_sign c)) [
      | inl e ↦ (c ∷ [], cs, refl, inr (c, refl, e), unsigned_from cs (rw e at h))
      | inr e ↦ ([], c ∷ cs, refl, inl refl, unsigned_from (c ∷ cs) (rw e at h))
    ]

-- a digit is no sign
pub digit_no_sign : (c : ℕ) → is_ascii_digit c ≡ true → is_sign c ≡ false
digit_no_sign c h = grind (arith, nat_tests)

pub unsigned_digits : (t : List ℕ) → is_unsigned t ≡ true → is_digits is_ascii_digit t ≡ true
unsigned_digits t h = (and_parts (is_digits is_ascii_digit t) (length t == 1 || not (slice_index t 0 == 0x30)) h).0

unsigned_decimal : (t : List ℕ) → is_unsigned t ≡ true → is_decimal t ≡ true
unsigned_decimal [] h = absurd cc
unsigned_decimal (c ∷ cs) h = rw (digit_no_sign c (digits_first c cs (unsigned_digits (c ∷ cs) h))) h

pub decimal_to : (t : List ℕ) → Decimal t → is_decimal t ≡ true
decimal_to t (a, b, e, inl none, u) = rw (e, none) (unsigned_decimal b (unsigned_to b u))
decimal_to t (a, b, e, inr (c, one, sign), u) = rw (e, one, sign) (unsigned_to b u)

-- ---- integers of any size

pub prefixed_from : (base letter : ℕ) (t : List ℕ) → is_prefixed base letter t ≡ true
    → Prefixed base (0x30 ∷ letter ∷ []) t
prefixed_from base letter [] h = absurd cc
prefixed_from base letter (z ∷ []) h = absurd cc
prefixed_from base letter (z ∷ x ∷ ds) h =
    let (prefix, digits) = and_parts (z == 0x30 && x == letter) (is_digits (is_in_base base) ds) h in
    let (nought, same) = and_parts (z == 0x30) (x == letter) prefix in
    (z ∷ x ∷ [], ds, refl, rw (eqb-true z 0x30 nought, eqb-true x letter same) refl, digits)

pub prefixed_to : (base letter : ℕ) (t : List ℕ) → Prefixed base (0x30 ∷ letter ∷ []) t
    → is_prefixed base letter t ≡ true
prefixed_to base letter t (a, b, e, prefix, digits) =
    let same : (letter == letter) ≡ true = grind (arith, nat_tests) in
    rw (e, prefix, same) digits

pub integer_text_from : (t : List ℕ) → is_integer_text t ≡ true → IntegerText t
integer_text_from t h =
    elim (or_cases (is_decimal t) (is_prefixed 16 0x78 t || (is_prefixed 8 0x6F t || is_prefixed 2 0x62 t)) h) [
      | inl d ↦ inl (decimal_from t d)
      | inr k ↦ elim (or_cases (is_prefixed 16 0x78 t) (is_prefixed 8 0x6F t || is_prefixed 2 0x62 t) k) [
        | inl d ↦ inr (inl (prefixed_from 16 0x78 t d))
        | inr m ↦ elim (or_cases (is_prefixed 8 0x6F t) (is_prefixed 2 0x62 t) m) [
          | inl d ↦ inr (inr (inl (prefixed_from 8 0x6F t d)))
          | inr d ↦ inr (inr (inr (prefixed_from 2 0x62 t d)))
        ]
      ]
    ]

pub integer_text_to : (t : List ℕ) → IntegerText t → is_integer_text t ≡ true
integer_text_to t (inl d) = rw (decimal_to t d) refl
integer_text_to t (inr (inl d)) =
    or_right (is_decimal t) (is_prefixed 16 0x78 t || (is_prefixed 8 0x6F t || is_prefixed 2 0x62 t))
    (rw (prefixed_to 16 0x78 t d) refl)
integer_text_to t (inr (inr (inl d))) =
    or_right (is_decimal t) (is_prefixed 16 0x78 t || (is_prefixed 8 0x6F t || is_prefixed 2 0x62 t))
    (or_right (is_prefixed 16 0x78 t) (is_prefixed 8 0x6F t || is_prefixed 2 0x62 t) (rw (prefixed_to 8 0x6F t d) refl))
integer_text_to t (inr (inr (inr d))) =
    or_right (is_decimal t) (is_prefixed 16 0x78 t || (is_prefixed 8 0x6F t || is_prefixed 2 0x62 t))
    (or_right (is_prefixed 16 0x78 t) (is_prefixed 8 0x6F t || is_prefixed 2 0x62 t)
    (or_right (is_prefixed 8 0x6F t) (is_prefixed 2 0x62 t) (prefixed_to 2 0x62 t d)))

-- ---- integers in 64 bits

pub integer_from : (t : List ℕ) → is_integer t ≡ true → Integer t
integer_from t h =
    let (text, fits) = and_parts (is_integer_text t) (nat_lt (mag (integer_value t)) 0x8000_0000_0000_0000) h in
    (integer_text_from t text, record { sfits = ltb-true _ _ fits })

pub integer_to : (t : List ℕ) → Integer t → is_integer t ≡ true
integer_to t h =
    and_from (is_integer_text t) (nat_lt (mag (integer_value t)) 0x8000_0000_0000_0000) (integer_text_to t h.0)
    (lt-ltb _ _ h.1.sfits)

-- ---- truth values

pub boolean_from : (t : List ℕ) → is_boolean t ≡ true → Boolean t
boolean_from [] h = absurd cc
boolean_from (a ∷ []) h = absurd cc
boolean_from (a ∷ b ∷ []) h = absurd cc
boolean_from (a ∷ b ∷ c ∷ []) h = absurd cc
boolean_from (a ∷ b ∷ c ∷ d ∷ []) h =
    let (abc, d_is) = and_parts ((a == 0x74 && b == 0x72) && c == 0x75) (d == 0x65) h in
    let (ab, c_is) = and_parts (a == 0x74 && b == 0x72) (c == 0x75) abc in
    let (a_is, b_is) = and_parts (a == 0x74) (b == 0x72) ab in
    inl (rw (eqb-true a 0x74 a_is, eqb-true b 0x72 b_is, eqb-true c 0x75 c_is, eqb-true d 0x65 d_is) refl)
boolean_from (a ∷ b ∷ c ∷ d ∷ e ∷ []) h =
    let (abcd, e_is) = and_parts (((a == 0x66 && b == 0x61) && c == 0x6C) && d == 0x73) (e == 0x65) h in
    let (abc, d_is) = and_parts ((a == 0x66 && b == 0x61) && c == 0x6C) (d == 0x73) abcd in
    let (ab, c_is) = and_parts (a == 0x66 && b == 0x61) (c == 0x6C) abc in
    let (a_is, b_is) = and_parts (a == 0x66) (b == 0x61) ab in
    inr (rw (
      eqb-true a 0x66 a_is,
      eqb-true b 0x61 b_is,
      eqb-true c 0x6C c_is,
      eqb-true d 0x73 d_is,
      eqb-true e 0x65 e_is,
    ) refl)
boolean_from (a ∷ b ∷ c ∷ d ∷ e ∷ f ∷ more) h = absurd cc

pub boolean_to : (t : List ℕ) → Boolean t → is_boolean t ≡ true
boolean_to t (inl e) = rw e refl
boolean_to t (inr e) = rw e refl
