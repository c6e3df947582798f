-- A fraction is a point and digits, or a point, digits and an exponent.
--
-- Theorem: `fraction_is`.
use Rattle.std.proofs.Common.{◌≡◌, ℕ, ◌-◌, ◌≤◌, ◌==◌, Bool, true, false, List, [], ◌∷◌, length, get_or, take, drop}
use Rattle.std.proofs.Common.{refl, ap, ◌∙◌, inl, inr, arith}
use Rattle.std.specs.Prelude.{◌&&◌, ◌||◌, if◌then◌else◌}
use Rattle.std.specs.List.{prefix_len}
use Rattle.std.specs.Char.{is_ascii_digit}
use Rattle.std.proofs.lemmas.Bool.{and_parts, eq-eqb}
use Rattle.std.proofs.lemmas.Bool.Decides.{nat_tests}
use Rattle.std.proofs.lemmas.List.{take_all, take_rest, drop_all, length-drop}
use Rattle.keep_token.specs.Numbers.{is_underscore, is_digits}
use Rattle.keep_token.specs.Words.{is_part, is_exponent, is_maybe_exponent, has_exponent, is_fraction}
use Rattle.keep_token.proofs.RunLaws.{tested}

-- no exponent is among digits
digit_part : (d : ℕ) → is_ascii_digit d ≡ true → is_part d ≡ true
digit_part d e = grind (arith, nat_tests)

underscore_part : (c : ℕ) → is_underscore c ≡ true → is_part c ≡ true
underscore_part c e = grind (arith, nat_tests)

all_part : (t : List ℕ) → is_digits is_ascii_digit t ≡ true → prefix_len is_part t ≡ length t
all_part [] e = refl
all_part (d ∷ []) e = let f = digit_part d e in rw f refl
all_part (d ∷ c ∷ cs) e =
    let (digit, more) =
    and_parts (is_ascii_digit d) (if is_underscore c then is_digits is_ascii_digit cs else is_digits is_ascii_digit
    (c ∷ cs)) e in
    let f = digit_part d digit in
    elim (tested (is_underscore c)) [
      | inl g ↦ let h = underscore_part c g in let k = all_part cs (rw g at more) in rw (f, h) (omega (arith, k))
      | inr g ↦ let k = all_part (c ∷ cs) (rw g at more) in rw f (omega (arith, k))
    ]

pub fraction_parts : (t : List ℕ)
    → (is_digits is_ascii_digit t || has_exponent t)
    ≡ (is_digits is_ascii_digit (take (prefix_len is_part t) t) && is_maybe_exponent (drop (prefix_len is_part t) t))
fraction_parts t = elim (tested (is_digits is_ascii_digit t)) [
  | inl e ↦ let n =
      all_part t e in rw (n, take_all (length t) t (omega arith), drop_all (length t) t (omega arith), e) refl
  | inr e ↦ rw e (by (drop (prefix_len is_part t) t) refl e)
]
  where
    by : (rest : List ℕ) → rest ≡ drop (prefix_len is_part t) t → is_digits is_ascii_digit t ≡ false
        → (is_digits is_ascii_digit (take (prefix_len is_part t) t) && is_exponent rest)
        ≡ (is_digits is_ascii_digit (take (prefix_len is_part t) t) && is_maybe_exponent rest)
    by [] is e =
        let all : take (prefix_len is_part t) t ≡ t =
        take_all (prefix_len is_part t) t (omega (arith, ap length is, length-drop (prefix_len is_part t) t)) in
        rw (all, e) refl
    by (c ∷ cs) is e = refl

-- digits after the point, or digits and an exponent
pub fraction_is : (t : List ℕ) (digits : Bool) → 1 ≤ length t → get_or t 0 0 ≡ 0x2E
    → digits ≡ (is_digits is_ascii_digit (take (length t - 1) (drop 1 t))
    || has_exponent (take (length t - 1) (drop 1 t))) → digits ≡ is_fraction t
fraction_is [] digits some point is = absurd (omega arith)
fraction_is (c ∷ cs) digits some point is =
    let f : (c == 0x2E) ≡ true = eq-eqb c 0x2E point in
    is ∙ ap (λ (t : List ℕ). is_digits is_ascii_digit t || has_exponent t) (take_rest (c ∷ cs) 1) ∙ fraction_parts cs
    ∙ rw f refl
