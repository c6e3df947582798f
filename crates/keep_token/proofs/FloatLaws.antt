-- The test of floats decides their language.
--
-- The test goes along the ABNF of `float`, part by part: an exponent, a fraction, a number with one of these, and `inf`
-- and `nan` with a sign. For each part there is a pair of lemmas: a text of the language passes the test (`.._to`), and
-- a text that passes is one of the language (`.._from`), by cutting it where the test cuts it.
--
-- Theorems: `float_to` and `float_from`.
use Rattle.std.proofs.Common.{◌≡◌, ℕ, Bool, true, false, cond, ◌&&◌, ◌||◌, ◌==◌, List, [], ◌∷◌, ◌++◌, length, take}
use Rattle.std.proofs.Common.{drop, refl, sym, subst, ap, inl, inr, arith, eqb-true, take_at, drop_at}
use Rattle.std.proofs.lemmas.List.{append-nil, take-append-drop}
use Rattle.std.proofs.lemmas.Bool.{and_parts, or_left, or_right, or_cases}
use Rattle.std.proofs.lemmas.Bool.Decides.{nat_tests}
use Rattle.std.specs.List.{prefix_len, list_all}
use Rattle.std.specs.Char.{is_ascii_digit}
use Rattle.keep_token.specs.Abnf.{Just, Maybe, One, ◌⨾◌, ◌or◌}
use Rattle.keep_token.specs.Scanning.{first}
use Rattle.keep_token.specs.Numbers.{Decimal, Digits, Float, Fraction, Exponent, is_decimal, is_digits, is_unsigned}
use Rattle.keep_token.specs.Numbers.{is_sign}
use Rattle.keep_token.specs.Words.{is_e, is_whole, is_part, is_signed_digits, is_exponent, is_maybe_exponent}
use Rattle.keep_token.specs.Words.{is_fraction, is_number, is_three, is_special, is_float}
use Rattle.keep_token.proofs.RunLaws.{tested, prefix_len-run, prefix_len-all, take_all, drop_all}
use Rattle.keep_token.proofs.NumberLaws.{decimal_from, decimal_to, digits_first, digit_no_sign, unsigned_digits}

-- each byte of digits passes a test that the digits and the underscore pass
pub digits_pass : (digit p : ℕ → Bool) → ((c : ℕ) → digit c ≡ true → p c ≡ true) → p 0x5F ≡ true → (ds : List ℕ)
    → is_digits digit ds ≡ true → list_all p ds ≡ true
digits_pass digit p f u [] h = absurd cc
digits_pass digit p f u (d ∷ []) h = rw (f d h) refl
digits_pass digit p f u (d ∷ c ∷ cs) h =
    let (here, more) = and_parts (digit d) (cond (c == 0x5F) (is_digits digit cs) (is_digits digit (c ∷ cs))) h in
    elim (tested (c == 0x5F)) [
      | inl e ↦
          let rest : list_all p cs ≡ true = digits_pass digit p f u cs (rw e at more) in
          let under : p c ≡ true = rw (eqb-true c 0x5F e) u in
          rw (f d here, under, rest) refl
      | inr e ↦ rw (f d here, digits_pass digit p f u (c ∷ cs) (rw e at more)) refl
    ]

-- each byte of a decimal integer passes a test that its digits, its signs and the underscore pass
pub decimal_pass : (p : ℕ → Bool) → ((c : ℕ) → is_ascii_digit c ≡ true → p c ≡ true)
    → ((c : ℕ) → is_sign c ≡ true → p c ≡ true) → p 0x5F ≡ true → (t : List ℕ) → is_decimal t ≡ true
    → list_all p t ≡ true
decimal_pass p f s u [] h = absurd cc
decimal_pass p f s u (c ∷ cs) h =
    elim (tested (is_sign c)) [
      | inl e ↦
          let k : is_unsigned cs ≡ true = rw e at h in
          rw (s c e, digits_pass is_ascii_digit p f u cs (unsigned_digits cs k)) refl
      | inr e ↦
          let k : is_unsigned (c ∷ cs) ≡ true = rw e at h in
          digits_pass is_ascii_digit p f u (c ∷ cs) (unsigned_digits (c ∷ cs) k)
    ]

digit_whole : (c : ℕ) → is_ascii_digit c ≡ true → is_whole c ≡ true
digit_whole c h = grind (arith, nat_tests)

digit_part : (c : ℕ) → is_ascii_digit c ≡ true → is_part c ≡ true
digit_part c h = grind (arith, nat_tests)

sign_whole : (c : ℕ) → is_sign c ≡ true → is_whole c ≡ true
sign_whole c h = grind (arith, nat_tests)

pub decimal_whole : (t : List ℕ) → is_decimal t ≡ true → list_all is_whole t ≡ true
decimal_whole = decimal_pass is_whole digit_whole sign_whole refl

not_part : (c : ℕ) → is_e c ≡ true → is_part c ≡ false
not_part c h = rw h refl

not_whole : (c : ℕ) → is_e c ≡ true → is_whole c ≡ false
not_whole c h = rw (or_right (c == 0x2E) (is_e c) h) refl

-- ---- exponents

-- digits do not begin with a sign
signed_plain : (b : List ℕ) → is_digits is_ascii_digit b ≡ true → is_signed_digits b ≡ true
signed_plain [] h = absurd cc
signed_plain (c ∷ cs) h = rw (digit_no_sign c (digits_first c cs h)) h

signed_to : (t : List ℕ) → (Maybe (One is_sign) ⨾ Digits is_ascii_digit) t → is_signed_digits t ≡ true
signed_to t (a, b, e, inl none, d) = rw (e, none) (signed_plain b d)
signed_to t (a, b, e, inr (c, one, sign), d) = rw (e, one, sign) d

signed_from : (t : List ℕ) → is_signed_digits t ≡ true → (Maybe (One is_sign) ⨾ Digits is_ascii_digit) t
signed_from [] h = absurd cc
signed_from (c ∷ cs) h =
    elim (tested (is_sign c)) [
      | inl e ↦ (c ∷ [], cs, refl, inr (c, refl, e), rw e at h)
      | inr e ↦ ([], c ∷ cs, refl, inl refl, rw e at h)
    ]

pub exponent_to : (t : List ℕ) → Exponent t → is_exponent t ≡ true
exponent_to t (a, b, e, (c, one, is), s) = rw (e, one, is) (signed_to b s)

pub exponent_from : (t : List ℕ) → is_exponent t ≡ true → Exponent t
exponent_from [] h = absurd cc
exponent_from (c ∷ cs) h =
    let (is, s) = and_parts (is_e c) (is_signed_digits cs) h in
    (c ∷ [], cs, refl, (c, refl, is), signed_from cs s)

-- an exponent begins with e
pub exponent_first : (t : List ℕ) → is_exponent t ≡ true → is_e (first t) ≡ true
exponent_first [] h = absurd cc
exponent_first (c ∷ cs) h = (and_parts (is_e c) (is_signed_digits cs) h).0

maybe_exponent : (t : List ℕ) → is_exponent t ≡ true → is_maybe_exponent t ≡ true
maybe_exponent [] h = refl
maybe_exponent (c ∷ cs) h = h

maybe_exponent_from : (t : List ℕ) → is_maybe_exponent t ≡ true → Maybe Exponent t
maybe_exponent_from [] h = inl refl
maybe_exponent_from (c ∷ cs) h = inr (exponent_from (c ∷ cs) h)

-- ---- fractions

pub fraction_to : (t : List ℕ) → (Fraction ⨾ Maybe Exponent) t → is_fraction t ≡ true
fraction_to t (a, b, e, (x, ds, f, dot, digits), inl none) =
    let all = digits_pass is_ascii_digit is_part digit_part refl ds digits in
    rw (
      e,
      f,
      dot,
      none,
    ) (subst (λ (u : List ℕ).
    (is_digits is_ascii_digit (take (prefix_len is_part u) u) && is_maybe_exponent (drop (prefix_len is_part u) u))
    ≡ true) (sym (append-nil ds)) (rw (prefix_len-all is_part ds all, take_all ds, drop_all ds, digits) refl))
fraction_to t (a, b, e, (x, ds, f, dot, digits), inr m) =
    let ex = exponent_to b m in
    let all = digits_pass is_ascii_digit is_part digit_part refl ds digits in
    let run = prefix_len-run is_part ds b all (not_part (first b) (exponent_first b ex)) in
    rw (e, f, dot, run, take_at ds b (length ds) refl, drop_at ds b (length ds) refl, digits) (maybe_exponent b ex)

pub fraction_from : (t : List ℕ) → is_fraction t ≡ true → (Fraction ⨾ Maybe Exponent) t
fraction_from [] h = absurd cc
fraction_from (c ∷ cs) h =
    let n = prefix_len is_part cs in
    let (dot, more) = and_parts (c == 0x2E) (is_digits is_ascii_digit (take n cs) && is_maybe_exponent (drop n cs)) h in
    let (digits, ends) = and_parts (is_digits is_ascii_digit (take n cs)) (is_maybe_exponent (drop n cs)) more in
    let spelled : c ∷ cs ≡ (c ∷ take n cs) ++ drop n cs = ap (λ (u : List ℕ). c ∷ u) (sym (take-append-drop n cs)) in (
      c ∷ take n cs,
      drop n cs,
      spelled,
      (c ∷ [], take n cs, refl, rw (eqb-true c 0x2E dot) refl, digits),
      maybe_exponent_from (drop n cs) ends,
    )

pub fraction_first : (t : List ℕ) → is_fraction t ≡ true → (first t == 0x2E) ≡ true
fraction_first [] h = absurd cc
fraction_first (c ∷ cs) h =
    (and_parts (c == 0x2E) (is_digits is_ascii_digit (take (prefix_len is_part cs) cs)
    && is_maybe_exponent (drop (prefix_len is_part cs) cs)) h).0

-- ---- numbers with a fraction or an exponent

number_prefix : (a b : List ℕ) → is_decimal a ≡ true → is_whole (first b) ≡ false
    → (is_exponent b || is_fraction b) ≡ true → is_number (a ++ b) ≡ true
number_prefix a b h stop tail =
    rw (
      prefix_len-run is_whole a b (decimal_whole a h) stop,
      take_at a b (length a) refl,
      drop_at a b (length a) refl,
      h,
    ) tail

number_to : (t : List ℕ) → (Decimal ⨾ (Exponent or (Fraction ⨾ Maybe Exponent))) t → is_number t ≡ true
number_to t (a, b, e, d, inl ex) =
    let k = exponent_to b ex in
    rw e (number_prefix a b (decimal_to a d) (not_whole (first b) (exponent_first b k)) (rw k refl))
number_to t (a, b, e, d, inr fr) =
    let k = fraction_to b fr in
    rw e (number_prefix a b (decimal_to a d) (rw (fraction_first b k) refl)
    (or_right (is_exponent b) (is_fraction b) k))

number_from : (t : List ℕ) → is_number t ≡ true → (Decimal ⨾ (Exponent or (Fraction ⨾ Maybe Exponent))) t
number_from t h =
    let n = prefix_len is_whole t in
    let (decimal, ends) = and_parts (is_decimal (take n t)) (is_exponent (drop n t) || is_fraction (drop n t)) h in
    elim (or_cases (is_exponent (drop n t)) (is_fraction (drop n t)) ends) [
      | inl k ↦ (
        take n t,
        drop n t,
        sym (take-append-drop n t),
        decimal_from (take n t) decimal,
        inl (exponent_from (drop n t) k),
      )
      | inr k ↦ (
        take n t,
        drop n t,
        sym (take-append-drop n t),
        decimal_from (take n t) decimal,
        inr (fraction_from (drop n t) k),
      )
    ]

-- ---- inf and nan

three_from : (t : List ℕ) → is_three t ≡ true → (Just (0x69 ∷ 0x6E ∷ 0x66 ∷ []) or Just (0x6E ∷ 0x61 ∷ 0x6E ∷ [])) t
three_from [] h = absurd cc
three_from (a ∷ []) h = absurd cc
three_from (a ∷ b ∷ []) h = absurd cc
three_from (a ∷ b ∷ c ∷ []) h =
    elim (or_cases ((a == 0x69 && b == 0x6E) && c == 0x66) ((a == 0x6E && b == 0x61) && c == 0x6E) h) [
      | inl k ↦
          let (ab, c_is) = and_parts (a == 0x69 && b == 0x6E) (c == 0x66) k in
          let (a_is, b_is) = and_parts (a == 0x69) (b == 0x6E) ab in
          inl (rw (eqb-true a 0x69 a_is, eqb-true b 0x6E b_is, eqb-true c 0x66 c_is) refl)
      | inr k ↦
          let (ab, c_is) = and_parts (a == 0x6E && b == 0x61) (c == 0x6E) k in
          let (a_is, b_is) = and_parts (a == 0x6E) (b == 0x61) ab in
          inr (rw (eqb-true a 0x6E a_is, eqb-true b 0x61 b_is, eqb-true c 0x6E c_is) refl)
    ]
three_from (a ∷ b ∷ c ∷ d ∷ more) h = absurd cc

special_to : (t : List ℕ) → (Maybe (One is_sign) ⨾ (Just (0x69 ∷ 0x6E ∷ 0x66 ∷ []) or Just (0x6E ∷ 0x61 ∷ 0x6E ∷ []))) t
    → is_special t ≡ true
special_to t (a, b, e, inl none, inl w) = rw (e, none, w) refl
special_to t (a, b, e, inl none, inr w) = rw (e, none, w) refl
special_to t (a, b, e, inr (c, one, sign), inl w) = rw (e, one, w, sign) refl
special_to t (a, b, e, inr (c, one, sign), inr w) = rw (e, one, w, sign) refl

special_from : (t : List ℕ) → is_special t ≡ true
    → (Maybe (One is_sign) ⨾ (Just (0x69 ∷ 0x6E ∷ 0x66 ∷ []) or Just (0x6E ∷ 0x61 ∷ 0x6E ∷ []))) t
special_from [] h = absurd cc
special_from (c ∷ cs) h =
    elim (tested (is_sign c)) [
      | inl e ↦ (c ∷ [], cs, refl, inr (c, refl, e), three_from cs (rw e at h))
      | inr e ↦ ([], c ∷ cs, refl, inl refl, three_from (c ∷ cs) (rw e at h))
    ]

-- ---- floats

pub float_to : (t : List ℕ) → Float t → is_float t ≡ true
float_to t (inl n) = or_left (is_number t) (is_special t) (number_to t n)
float_to t (inr s) = or_right (is_number t) (is_special t) (special_to t s)

pub float_from : (t : List ℕ) → is_float t ≡ true → Float t
float_from t h =
    elim (or_cases (is_number t) (is_special t) h) [
      | inl k ↦ inl (number_from t k)
      | inr k ↦ inr (special_from t k)
    ]
