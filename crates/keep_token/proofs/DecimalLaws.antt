-- The decimal text of a number is an integer of the language, and its value is the number.
--
-- The laws of `decimal` hold for each model of numerals, and ASCII digits with `sum_of_digits` are one (`numerals`). So
-- the text of a number has digits alone, their sum is the number, and a 0 begins it only where it is the whole text
-- (`plain_decimal`). Such a text is `Unsigned` (`unsigned_text`). No underscore is in it, so its value in base 10 is
-- the sum (`value_is`); no sign and no prefix of a base begins it, so `integer_value` is the value of the whole text in
-- base 10 (`unsigned_value`). This is the text of a number from 0 on (`decimal_at`); a negative number has a minus sign
-- before it (`negative_at`).
--
-- Theorems: `encoded_int`: of each number that fits into 64 bits with a sign; `decimal_at`: of digits with such a sum,
-- where a 0 is first only if it is alone.
use Rattle.std.proofs.Common.{◌≡◌, ℕ, ℤ, pos, negsuc, suc, ◌-◌, ◌^◌, ◌<◌, true, false, not, ◌==◌, List, [], ◌∷◌, length}
use Rattle.std.proofs.Common.{get_or, refl, ◌∙◌, ap, subst, eq-zero-or-pos, inl, inr, ◌⊎◌, arith, FitsSigned, w64}
use Rattle.std.proofs.lemmas.Bool.Decides.{nat_tests}
use Rattle.std.proofs.lemmas.Bool.{and_parts, and_from}
use Rattle.std.proofs.Math.Nat.{eq-or-lt_of_le}
use Rattle.std.specs.Char.{is_ascii_digit, digit_value}
use Rattle.std.specs.Fmt.{decimal, signed_decimal}
use Rattle.std.specs.List.{list_all, filter}
use Rattle.std.specs.Int.{IsInRange}
use Rattle.std.proofs.lemmas.Str.Parse.{IsDigitsTest, WeighsDigits, IsNumeralModel, numerals_by_weight}
use Rattle.std.proofs.lemmas.Fmt.{digits_decimal, digits_value-decimal, decimal_nonempty, decimal_digit, first_decimal}
use Rattle.keep_token.specs.Abnf.{between}
use Rattle.keep_token.specs.Numbers.{is_underscore, is_digits, sum_of_digits, digits_value, negated, integer_value}
use Rattle.keep_token.specs.Numbers.{Unsigned, Integer}

-- ---- decimal texts are numerals

pub in_range : (c : ℕ) → is_ascii_digit c ≡ true → IsInRange 48 57 c
in_range c h = grind (arith, nat_tests)

digit_in_range : (c : ℕ) → IsInRange 48 57 c → is_ascii_digit c ≡ true
digit_in_range c h = grind (arith, nat_tests)

pub digit_is : (c : ℕ) → IsInRange 48 57 c → digit_value c ≡ c - 48
digit_is c h = grind (arith, nat_tests)

no_underscore : (c : ℕ) → is_ascii_digit c ≡ true → is_underscore c ≡ false
no_underscore c h = grind (arith, nat_tests)

tells : IsDigitsTest (λ ds. list_all is_ascii_digit ds ≡ true)
tells = record {
  empty = refl;
  parts = λ c cs h. let k = and_parts (is_ascii_digit c) (list_all is_ascii_digit cs) h in (in_range c k.0, k.1);
  more = λ c cs k h. and_from (is_ascii_digit c) (list_all is_ascii_digit cs) (digit_in_range c k) h;
}

weighs : WeighsDigits (sum_of_digits 10)
weighs = record { empty = refl; more = λ c cs h. rw (digit_is c h) refl }

numerals : IsNumeralModel (λ ds. list_all is_ascii_digit ds ≡ true) (sum_of_digits 10)
numerals = numerals_by_weight _ tells (sum_of_digits 10) weighs

-- ---- digits without underscores

digits_text : (d : ℕ) (ds : List ℕ) → list_all is_ascii_digit (d ∷ ds) ≡ true → is_digits is_ascii_digit (d ∷ ds) ≡ true
digits_text d [] h = (and_parts (is_ascii_digit d) true h).0
digits_text d (c ∷ cs) h =
    let k = and_parts (is_ascii_digit d) (list_all is_ascii_digit (c ∷ cs)) h in
    let m = and_parts (is_ascii_digit c) (list_all is_ascii_digit cs) k.1 in
    rw (no_underscore c m.0) (and_from (is_ascii_digit d) (is_digits is_ascii_digit (c ∷ cs)) k.0
    (digits_text c cs k.1))

all_preserved : (ds : List ℕ) → list_all is_ascii_digit ds ≡ true → filter (λ c. not (is_underscore c)) ds ≡ ds
all_preserved [] h = refl
all_preserved (c ∷ cs) h =
    let k = and_parts (is_ascii_digit c) (list_all is_ascii_digit cs) h in
    rw (no_underscore c k.0) (ap (λ (t : List ℕ). c ∷ t) (all_preserved cs k.1))

value_is : (ds : List ℕ) → list_all is_ascii_digit ds ≡ true → digits_value 10 ds ≡ sum_of_digits 10 ds
value_is ds h = ap (sum_of_digits 10) (all_preserved ds h)

leads : (d : ℕ) → is_ascii_digit d ≡ true → 48 < d → between 0x31 0x39 d ≡ true
leads d h k = grind (arith, nat_tests)

unsigned_text : (d : ℕ) (ds : List ℕ) → list_all is_ascii_digit (d ∷ ds) ≡ true → (ds ≡ []) ⊎ (48 < d)
    → Unsigned (d ∷ ds)
unsigned_text d [] h e = inl (d, refl, (and_parts (is_ascii_digit d) true h).0)
unsigned_text d (c ∷ cs) h e =
    let k = and_parts (is_ascii_digit d) (list_all is_ascii_digit (c ∷ cs)) h in
    elim e [
      | inl none ↦ let never : ⊥ = cc in absurd never
      | inr more ↦ inr (digits_text d (c ∷ cs) h, omega arith, leads d k.0 more)
    ]

-- ---- the value of a text

zero_value : (d : ℕ) → 48 ≡ d → integer_value (d ∷ []) ≡ pos (digits_value 10 (d ∷ []))
zero_value d e = rw (← e) refl

leading_value : (d : ℕ) (ds : List ℕ) → 48 < d → integer_value (d ∷ ds) ≡ pos (digits_value 10 (d ∷ ds))
leading_value d ds h =
    let zero : (d == 0x30) ≡ false = grind (arith, nat_tests) in
    let minus : (d == 0x2D) ≡ false = grind (arith, nat_tests) in
    let plus : (d == 0x2B) ≡ false = grind (arith, nat_tests) in
    rw (zero, minus, plus) refl

unsigned_value : (d : ℕ) (ds : List ℕ) → list_all is_ascii_digit (d ∷ ds) ≡ true → (ds ≡ []) ⊎ (48 < d)
    → integer_value (d ∷ ds) ≡ pos (digits_value 10 (d ∷ ds))
unsigned_value d [] h e =
    elim (eq-or-lt_of_le (in_range d (and_parts (is_ascii_digit d) true h).0).0) [
      | inl nought ↦ zero_value d nought
      | inr more ↦ leading_value d [] more
    ]
unsigned_value d (c ∷ cs) h e =
    elim e [ inl none ↦ let never : ⊥ = cc in absurd never | inr more ↦ leading_value d (c ∷ cs) more ]

-- ---- decimal texts

-- a text of digits, no 0 before another digit
record IsPlainDecimal (n : ℕ) (text : List ℕ) : Type 0 where
  first : ℕ
  more : List ℕ
  is : first ∷ more ≡ text
  digits : list_all is_ascii_digit (first ∷ more) ≡ true
  value : sum_of_digits 10 (first ∷ more) ≡ n
  leading : (more ≡ []) ⊎ (48 < first)

plain_of : (n : ℕ) (text : List ℕ) → 0 < length text → list_all is_ascii_digit text ≡ true → sum_of_digits 10 text ≡ n
    → (0 < n → 48 < get_or text 0 0) → (n ≡ 0 → text ≡ 48 ∷ []) → IsPlainDecimal n text
plain_of n [] some digits value above nought = absurd (omega arith)
plain_of n (d ∷ ds) some digits value above nought = record {
  first = d;
  more = ds;
  is = refl;
  digits = digits;
  value = value;
  leading = elim (eq-zero-or-pos n) [ inl z ↦ inl (let e = nought z in cc) | inr g ↦ inr (above g) ];
}

plain_decimal : (n : ℕ) → n < 2 ^ 64 → IsPlainDecimal n (decimal n)
plain_decimal n h =
    plain_of n (decimal n) (decimal_nonempty n h) (digits_decimal numerals n h) (digits_value-decimal numerals n h)
    (λ g. first_decimal n g h) (λ z. decimal_digit n (omega arith) ∙ rw z refl)

-- ---- what `encode_int` writes

pub decimal_at : (n d : ℕ) (ds : List ℕ) → list_all is_ascii_digit (d ∷ ds) ≡ true → sum_of_digits 10 (d ∷ ds) ≡ n
    → (ds ≡ []) ⊎ (48 < d) → FitsSigned w64 (pos n) → Integer (d ∷ ds) × (integer_value (d ∷ ds) ≡ pos n)
decimal_at n d ds digits value leading fits =
    let is : integer_value (d ∷ ds) ≡ pos n =
    unsigned_value d ds digits leading ∙ ap pos (value_is (d ∷ ds) digits ∙ value) in
    ((inl ([], d ∷ ds, refl, inl refl, unsigned_text d ds digits leading), rw is fits), is)

negative_at : (n d : ℕ) (ds : List ℕ) → list_all is_ascii_digit (d ∷ ds) ≡ true → sum_of_digits 10 (d ∷ ds) ≡ suc n
    → (ds ≡ []) ⊎ (48 < d)
    → FitsSigned w64 (negsuc n) → Integer (0x2D ∷ d ∷ ds) × (integer_value (0x2D ∷ d ∷ ds) ≡ negsuc n)
negative_at n d ds digits value leading fits =
    let is : integer_value (0x2D ∷ d ∷ ds) ≡ negsuc n = ap negated (value_is (d ∷ ds) digits ∙ value) in
    ((inl (0x2D ∷ [], d ∷ ds, refl, inr (0x2D, refl, refl), unsigned_text d ds digits leading), rw is fits), is)

pub encoded_int : (z : ℤ) → FitsSigned w64 z → Integer (signed_decimal z) × (integer_value (signed_decimal z) ≡ z)
encoded_int (pos n) h =
    let p = plain_decimal n (omega (arith, h.sfits)) in
    let P : List ℕ → Type 0 = λ t. Integer t × (integer_value t ≡ pos n) in
    subst P p.is (decimal_at n p.first p.more p.digits p.value p.leading h)
encoded_int (negsuc n) h =
    let p = plain_decimal (suc n) (omega (arith, h.sfits)) in
    let P : List ℕ → Type 0 = λ t. Integer (0x2D ∷ t) × (integer_value (0x2D ∷ t) ≡ negsuc n) in
    subst P p.is (negative_at n p.first p.more p.digits p.value p.leading h)
