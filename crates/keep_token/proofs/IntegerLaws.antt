-- An integer's value, by the sign or the prefix that it begins with.
--
-- The code looks at the first bytes and then reads digits in one base; the definition tests the whole text. There is a
-- case for a minus, a plus, no sign, and each prefix of a base. In each the test of the text comes down to a test of
-- the digits (`IsWritten`, `IsPrefixed`), and the value to that of the digits. `base_ten` shows that without a prefix
-- only the decimal test counts. That a number fits is answered by the checked arithmetic of the code: a sum or
-- difference with 0 (`fits_some`, `minus_is`, `plus_is`), and a text whose digits do not fit in 64 bits is no integer
-- (`integer_none`).
--
-- Theorems: `integer_same`, `integer_some`, `integer_none`: the answer of the code is that of the definition, for each
-- case.
use Rattle.std.proofs.Common.{◌≡◌, ℕ, ℤ, pos, negsuc, zero, suc, ◌-◌, ◌^◌, ◌<◌, ◌≤◌, Bool, true, false, not, ◌&&◌, ◌||◌}
use Rattle.std.proofs.Common.{◌==◌, List, [], ◌∷◌, length, get_or, take, drop, refl, sym, ◌∙◌, inl, inr, arith, ◌⊎◌}
use Rattle.std.specs.Prelude.{IsTrue, FitsSigned, Option, Some, None, SomeIff, IsSome, ◌↔◌, is_some, ◌+ℤ◌, ◌-ℤ◌}
use Rattle.std.specs.Int.{w64}
use Rattle.std.proofs.lemmas.Int.{ints}
use Rattle.std.proofs.lemmas.Bool.Decides.{nat_tests}
use Rattle.std.specs.Char.{is_ascii_digit}
use Rattle.keep_token.specs.Numbers.{Integer, is_digits, is_in_base, is_unsigned, is_decimal, digits_value}
use Rattle.keep_token.specs.Numbers.{integer_value, base_of, negated}
use Rattle.keep_token.specs.Words.{is_integer_text, is_integer}
use Rattle.keep_token.proofs.RunLaws.{tested, take_all}
use Rattle.keep_token.proofs.NumberLaws.{integer_text_from, integer_text_to, integer_from, integer_to}

-- ---- answers that are there or not

pub same_if : {A : Type 0} (r : Option A) (P Q : Type 0) (v w : A) → (P → Q) → (Q → P) → v ≡ w → SomeIff r P v
    → SomeIff r Q w
same_if None P Q v w to from e h = λ q. h (from q)
same_if (Some x) P Q v w to from e h = (to h.0, h.1 ∙ e)

-- ---- unsigned digits

ten_digit : (c : ℕ) → is_in_base 10 c ≡ is_ascii_digit c
ten_digit c = grind (arith, nat_tests)

pub ten_digits : (t : List ℕ) → is_digits (is_in_base 10) t ≡ is_digits is_ascii_digit t
ten_digits [] = refl
ten_digits (d ∷ []) = ten_digit d
ten_digits (d ∷ c ∷ cs) =
    elim (tested (c == 0x5F)) [
      | inl e ↦ rw (e, ten_digit d, ten_digits cs) refl
      | inr e ↦ rw (e, ten_digit d, ten_digits (c ∷ cs)) refl
    ]

-- one digit, or no 0 at the start
abbrev pub MayBeUnsigned : List ℕ → Type 0
MayBeUnsigned t = (length t < 2) ⊎ (get_or t 0 0 ≡ 0x30 → ⊥)

and_true : (b : Bool) → b ≡ (b && true)
and_true true = refl
and_true false = refl

unsigned_is : (t : List ℕ) → MayBeUnsigned t → is_digits (is_in_base 10) t ≡ is_unsigned t
unsigned_is [] m = refl
unsigned_is (d ∷ []) m = rw (ten_digits (d ∷ [])) (grind (arith, nat_tests))
unsigned_is (d ∷ c ∷ cs) (inl m) = absurd (omega arith)
unsigned_is (d ∷ c ∷ cs) (inr m) =
    let plain : (d == 0x30) ≡ false = grind (arith, nat_tests) in
    let some : (length (d ∷ c ∷ cs) == 1 || not (d == 0x30)) ≡ true = rw plain (grind (arith, nat_tests)) in
    rw (ten_digits (d ∷ c ∷ cs), some) (and_true (is_digits is_ascii_digit (d ∷ c ∷ cs)))

pub unsigned_value_is : (r : Option ℕ) (t : List ℕ) → MayBeUnsigned t
    → SomeIff r (IsTrue (is_digits (is_in_base 10) t) × (digits_value 10 t < 2 ^ 64)) (digits_value 10 t)
    → SomeIff r (IsTrue (is_unsigned t) × (digits_value 10 t < 2 ^ 64)) (digits_value 10 t)
unsigned_value_is r t m h = rw (unsigned_is t m) at h

-- ---- decimal integers

or_none : (b : Bool) → (b || false) ≡ b
or_none true = refl
or_none false = refl

prefix_none : (z x o b d p q r : Bool) → x ≡ false → o ≡ false → b ≡ false
    → (d || (((z && x) && p) || (((z && o) && q) || ((z && b) && r)))) ≡ d
prefix_none true x o b d p q r e f g = rw (e, f, g) (or_none d)
prefix_none false x o b d p q r e f g = or_none d

prefix_other : (z x o b d p q r : Bool) → z ≡ false
    → (d || (((z && x) && p) || (((z && o) && q) || ((z && b) && r)))) ≡ d
prefix_other true x o b d p q r e = absurd cc
prefix_other false x o b d p q r e = or_none d

base_ten : (t : List ℕ) → base_of t ≡ 10 → is_integer_text t ≡ is_decimal t
base_ten [] h = refl
base_ten (z ∷ []) h = or_none (is_decimal (z ∷ []))
base_ten (z ∷ x ∷ ds) h =
    elim (tested (z == 0x30)) [
      | inr e ↦
          prefix_other (z == 0x30) (x == 0x78) (x == 0x6F) (x == 0x62) (is_decimal (z ∷ x ∷ ds))
          (is_digits (is_in_base 16) ds) (is_digits (is_in_base 8) ds) (is_digits (is_in_base 2) ds) e
      | inl e ↦ elim (tested (x == 0x78)) [
        | inl f ↦ absurd (let k : 16 ≡ 10 = rw (e, f) at h in omega (arith, k))
        | inr f ↦ elim (tested (x == 0x6F)) [
          | inl g ↦ absurd (let k : 8 ≡ 10 = rw (e, f, g) at h in omega (arith, k))
          | inr g ↦ elim (tested (x == 0x62)) [
            | inl i ↦ absurd (let k : 2 ≡ 10 = rw (e, f, g, i) at h in omega (arith, k))
            | inr i ↦
                prefix_none (z == 0x30) (x == 0x78) (x == 0x6F) (x == 0x62) (is_decimal (z ∷ x ∷ ds))
                (is_digits (is_in_base 16) ds) (is_digits (is_in_base 8) ds) (is_digits (is_in_base 2) ds) f g i
          ]
        ]
      ]
    ]

-- the text has these digits and this value
pub record IsWritten (t ds : List ℕ) (z : ℤ) : Type 0 where
  pub ten : base_of t ≡ 10
  pub decimal : is_decimal t ≡ is_unsigned ds
  pub value : integer_value t ≡ z

minus_cons : (ds : List ℕ) → IsWritten (0x2D ∷ ds) ds (negated (digits_value 10 ds))
minus_cons ds = record { ten = refl; decimal = refl; value = refl }

plus_cons : (ds : List ℕ) → IsWritten (0x2B ∷ ds) ds (pos (digits_value 10 ds))
plus_cons ds = record { ten = refl; decimal = refl; value = refl }

pub after_one : (c : ℕ) (cs : List ℕ) → take (length (c ∷ cs) - 1) cs ≡ cs
after_one c cs = let n : length (c ∷ cs) - 1 ≡ length cs = omega arith in rw n (take_all cs)

pub minus_written : (t : List ℕ) → 1 ≤ length t → get_or t 0 0 ≡ 0x2D
    → IsWritten t (take (length t - 1) (drop 1 t)) (negated (digits_value 10 (take (length t - 1) (drop 1 t))))
minus_written [] some is = absurd (omega arith)
minus_written (c ∷ cs) some is = rw (after_one c cs, is) (minus_cons cs)

pub plus_written : (t : List ℕ) → 1 ≤ length t → get_or t 0 0 ≡ 0x2B
    → IsWritten t (take (length t - 1) (drop 1 t)) (pos (digits_value 10 (take (length t - 1) (drop 1 t))))
plus_written [] some is = absurd (omega arith)
plus_written (c ∷ cs) some is = rw (after_one c cs, is) (plus_cons cs)

-- no sign comes first
abbrev pub IsPlain : List ℕ → Type 0
IsPlain t = (length t < 1) ⊎ ((get_or t 0 0 ≡ 0x2D → ⊥) × (get_or t 0 0 ≡ 0x2B → ⊥))

pub plain_written : (t : List ℕ) → base_of t ≡ 10 → IsPlain t → IsWritten t t (pos (digits_value 10 t))
plain_written [] ten p = record { ten = refl; decimal = refl; value = refl }
plain_written (c ∷ cs) ten (inl p) = absurd (omega arith)
plain_written (c ∷ cs) ten (inr (minus, plus)) =
    let m : (c == 0x2D) ≡ false = grind (arith, nat_tests) in
    let p : (c == 0x2B) ≡ false = grind (arith, nat_tests) in
    record { ten = ten; decimal = rw (m, p) refl; value = rw (ten, m, p) refl }

pub integer_none : (t ds : List ℕ) (z : ℤ) → IsWritten t ds z → (FitsSigned w64 z → digits_value 10 ds < 2 ^ 64)
    → (IsTrue (is_unsigned ds) × (digits_value 10 ds < 2 ^ 64) → ⊥) → Integer t → ⊥
integer_none t ds z w fits never i =
    let decimal : is_unsigned ds ≡ true = sym w.decimal ∙ sym (base_ten t w.ten) ∙ integer_text_to t i.0 in
    never (decimal, fits (rw w.value at i.1))

pub integer_same : (r : Option ℤ) (t ds : List ℕ) (z : ℤ) → IsWritten t ds z
    → SomeIff r (IsTrue (is_unsigned ds) × FitsSigned w64 z) z → SomeIff r (Integer t) (integer_value t)
integer_same r t ds z w h =
    let decimal : is_integer_text t ≡ is_unsigned ds = base_ten t w.ten ∙ w.decimal in
    same_if r (IsTrue (is_unsigned ds) × FitsSigned w64 z) (Integer t) z (integer_value t)
    (λ p. (integer_text_from t (decimal ∙ p.0), rw w.value p.1))
    (λ i. (sym decimal ∙ integer_text_to t i.0, rw w.value at i.1)) (sym w.value) h

pub integer_some : (r : Option ℤ) (t ds : List ℕ) (z y : ℤ) → IsWritten t ds z → IsTrue (is_unsigned ds) → y ≡ z
    → SomeIff r (FitsSigned w64 y) y → SomeIff r (Integer t) (integer_value t)
integer_some r t ds z y w u e h =
    let same : y ≡ integer_value t = e ∙ sym w.value in
    let text = integer_text_from t (base_ten t w.ten ∙ w.decimal ∙ u) in
    same_if r (FitsSigned w64 y) (Integer t) y (integer_value t) (λ f. (text, rw same at f)) (λ i. rw same i.1) same h

-- ---- integers after the prefix of a base

-- the text has these digits in this base after its prefix
pub record IsPrefixed (base : ℕ) (t ds : List ℕ) : Type 0 where
  pub text : is_integer_text t ≡ is_digits (is_in_base base) ds
  pub value : integer_value t ≡ pos (digits_value base ds)

and_none : (b : Bool) → (b && false) ≡ false
and_none true = refl
and_none false = refl

-- no 0 comes before another byte of a decimal integer
zero_first : (x : ℕ) (ds : List ℕ) → is_decimal (0x30 ∷ x ∷ ds) ≡ false
zero_first x ds =
    let more : (length (0x30 ∷ x ∷ ds) == 1 || not (0x30 == 0x30)) ≡ false = grind (arith, nat_tests) in
    rw more (and_none (is_digits is_ascii_digit (0x30 ∷ x ∷ ds)))

pub hex_digits : (ds : List ℕ) → IsPrefixed 16 (0x30 ∷ 0x78 ∷ ds) ds
hex_digits ds = record { text = rw (zero_first 0x78 ds) (or_none (is_digits (is_in_base 16) ds)); value = refl }

pub octal_digits : (ds : List ℕ) → IsPrefixed 8 (0x30 ∷ 0x6F ∷ ds) ds
octal_digits ds = record { text = rw (zero_first 0x6F ds) (or_none (is_digits (is_in_base 8) ds)); value = refl }

pub binary_digits : (ds : List ℕ) → IsPrefixed 2 (0x30 ∷ 0x62 ∷ ds) ds
binary_digits ds = record { text = rw (zero_first 0x62 ds) refl; value = refl }

pub after_two : (a b : ℕ) (cs : List ℕ) → take (length (a ∷ b ∷ cs) - 2) cs ≡ cs
after_two a b cs = let n : length (a ∷ b ∷ cs) - 2 ≡ length cs = omega arith in rw n (take_all cs)

pub prefixed : (base letter : ℕ) → ((ds : List ℕ) → IsPrefixed base (0x30 ∷ letter ∷ ds) ds) → (t : List ℕ)
    → 2 ≤ length t → get_or t 0 0 ≡ 0x30 → get_or t 1 0 ≡ letter → IsPrefixed base t (take (length t - 2) (drop 2 t))
prefixed base letter digits [] some nought is = absurd (omega arith)
prefixed base letter digits (z ∷ []) some nought is = absurd (omega arith)
prefixed base letter digits (z ∷ x ∷ ds) some nought is = rw (after_two z x ds, nought, is) (digits ds)

pub prefixed_same : (r : Option ℤ) (base : ℕ) (t ds : List ℕ) → IsPrefixed base t ds
    → SomeIff r (IsTrue (is_digits (is_in_base base) ds) × FitsSigned w64 (pos (digits_value base ds)))
    (pos (digits_value base ds)) → SomeIff r (Integer t) (integer_value t)
prefixed_same r base t ds w h =
    same_if r (IsTrue (is_digits (is_in_base base) ds) × FitsSigned w64 (pos (digits_value base ds))) (Integer t)
    (pos (digits_value base ds)) (integer_value t) (λ p. (integer_text_from t (w.text ∙ p.0), rw w.value p.1))
    (λ i. (sym w.text ∙ integer_text_to t i.0, rw w.value at i.1)) (sym w.value) h

-- no prefix comes first
abbrev pub NoPrefix : List ℕ → Type 0
NoPrefix t =
    (length t < 2) ⊎ ((get_or t 0 0 ≡ 0x30 → ⊥)
    ⊎ ((get_or t 1 0 ≡ 0x78 → ⊥) × ((get_or t 1 0 ≡ 0x6F → ⊥) × (get_or t 1 0 ≡ 0x62 → ⊥))))

pub no_prefix : (t : List ℕ) → NoPrefix t → base_of t ≡ 10
no_prefix [] h = refl
no_prefix (z ∷ []) h = elim (tested (z == 0x30)) [ inl e ↦ rw e refl | inr e ↦ rw e refl ]
no_prefix (z ∷ x ∷ ds) (inl h) = absurd (omega arith)
no_prefix (z ∷ x ∷ ds) (inr (inl h)) = let e : (z == 0x30) ≡ false = grind (arith, nat_tests) in rw e refl
no_prefix (z ∷ x ∷ ds) (inr (inr (hex, (octal, binary)))) =
    let e : (x == 0x78) ≡ false = grind (arith, nat_tests) in
    let f : (x == 0x6F) ≡ false = grind (arith, nat_tests) in
    let g : (x == 0x62) ≡ false = grind (arith, nat_tests) in
    elim (tested (z == 0x30)) [ inl h ↦ rw (h, e, f, g) refl | inr h ↦ rw h refl ]

-- ---- what the signs make of a number

negated_suc : (m : ℕ) → (pos 0 -ℤ pos (suc m)) ≡ negsuc m
negated_suc m = omega (arith, ints)

pub minus_is : (m v : ℕ) → m ≡ v → (pos 0 -ℤ pos m) ≡ negated v
minus_is zero v e = rw (sym e) refl
minus_is (suc m) v e = rw (sym e) (negated_suc m)

pub plus_is : (m v : ℕ) → m ≡ v → (pos 0 +ℤ pos m) ≡ pos v
plus_is m v e = rw (sym e) (omega (arith, ints))

pub minus_fits : (v : ℕ) → FitsSigned w64 (negated v) → v < 2 ^ 64
minus_fits zero h = omega arith
minus_fits (suc v) h = let k = h.sfits in omega (arith, k)

pub plus_fits : (v : ℕ) → FitsSigned w64 (pos v) → v < 2 ^ 64
plus_fits v h = let k = h.sfits in omega (arith, k)

-- a sum with 0 that fits is the number itself
pub fits_some : (r : Option ℤ) (P : Type 0) (m v : ℕ) → P → m ≡ v
    → SomeIff r (FitsSigned w64 (pos 0 +ℤ pos m)) (pos 0 +ℤ pos m) → SomeIff r (P × FitsSigned w64 (pos v)) (pos v)
fits_some r P m v p e h =
    let same : (pos 0 +ℤ pos m) ≡ pos v = plus_is m v e in
    same_if r (FitsSigned w64 (pos 0 +ℤ pos m)) (P × FitsSigned w64 (pos v)) (pos 0 +ℤ pos m) (pos v)
    (λ f. (p, rw same at f)) (λ f. rw same f.1) same h

pub none_of : (r : Option ℤ) (P : Type 0) (v : ℤ) → r ≡ None → (P → ⊥) → SomeIff r P v
none_of r P v e never = rw e never

pub fits_none : (r : Option ℤ) (P : Type 0) (v : ℕ) → r ≡ None → (P × (v < 2 ^ 64) → ⊥)
    → SomeIff r (P × FitsSigned w64 (pos v)) (pos v)
fits_none r P v e never = none_of r (P × FitsSigned w64 (pos v)) (pos v) e (λ p. never (p.0, plus_fits v p.1))

pub is_integer_some : (r : Option ℤ) (t : List ℕ) → SomeIff r (Integer t) (integer_value t) → is_some r ≡ is_integer t
is_integer_some None t h =
    elim (tested (is_integer t)) [
      | inl e ↦ absurd (h (integer_from t e))
      | inr e ↦ sym e
    ]
is_integer_some (Some x) t h = sym (integer_to t h.0)

pub integer_of_some : (r : Option ℤ) (t : List ℕ) → SomeIff r (Integer t) (integer_value t) → IsSome r ↔ Integer t
integer_of_some None t h = (λ s. absurd (let e = s in cc), λ i. absurd (h i))
integer_of_some (Some x) t h = (λ s. h.0, λ i. refl)
