-- One digit, or a digit with what may come after it.
use Rattle.std.proofs.Common.{◌≡◌, ℕ, ◌-◌, ◌<◌, ◌≤◌, true, false, ◌==◌, List, [], ◌∷◌, length, get_or, take, drop, refl}
use Rattle.std.proofs.Common.{sym, ◌∙◌, arith}
use Rattle.std.proofs.lemmas.Bool.Decides.{nat_tests}
use Rattle.std.specs.Char.{is_ascii_digit}
use Rattle.keep_token.specs.Numbers.{is_digits}
use Rattle.keep_token.proofs.IntegerLaws.{after_one, after_two}
use Rattle.keep_token.proofs.numbers.is_digits.Goals as goal

one : (t : List ℕ) → 1 ≤ length t → length t < 2 → is_ascii_digit (get_or t 0 0) ≡ is_digits is_ascii_digit t
one [] some few = absurd (omega arith)
one (d ∷ []) some few = refl
one (d ∷ c ∷ cs) some few = absurd (omega arith)

bad : (t : List ℕ) → 2 ≤ length t → is_ascii_digit (get_or t 0 0) ≡ false → false ≡ is_digits is_ascii_digit t
bad [] some e = absurd (omega arith)
bad (d ∷ []) some e = absurd (omega arith)
bad (d ∷ c ∷ cs) some e = rw e refl

more : (t : List ℕ) → 2 ≤ length t → is_ascii_digit (get_or t 0 0) ≡ true → (get_or t 1 0 ≡ 0x5F → ⊥)
    → is_digits is_ascii_digit (take (length t - 1) (drop 1 t)) ≡ is_digits is_ascii_digit t
more [] some e other = absurd (omega arith)
more (d ∷ []) some e other = absurd (omega arith)
more (d ∷ c ∷ cs) some e other =
    let plain : (c == 0x5F) ≡ false = grind (arith, nat_tests) in
    rw (after_one d (c ∷ cs), e, plain) refl

passed : (t : List ℕ) → 2 ≤ length t → is_ascii_digit (get_or t 0 0) ≡ true → get_or t 1 0 ≡ 0x5F
    → is_digits is_ascii_digit (take (length t - 2) (drop 2 t)) ≡ is_digits is_ascii_digit t
passed [] some e is = absurd (omega arith)
passed (d ∷ []) some e is = absurd (omega arith)
passed (d ∷ c ∷ cs) some e is = rw (after_two d c cs, is, e) refl

pub returns-in-len1 : goal.returns-in-len1
returns-in-len1 c =
    c.is_ascii_digit.ensures.value ∙ one c.loop-rest.rest.now c.in-len1.len_at_least c.in-len1.len_below
    ∙ c.loop-rest.invariant

pub returns-then-not-is_ascii_digit : goal.returns-then-not-is_ascii_digit
returns-then-not-is_ascii_digit c =
    bad c.loop-rest.rest.now c.in-95.len_at_least
    (sym c.is_ascii_digit-in-95.ensures.value ∙ c.if-not-is_ascii_digit.true) ∙ c.loop-rest.invariant

pub returns-then-not-is_ascii_digit-2 : goal.returns-then-not-is_ascii_digit-2
returns-then-not-is_ascii_digit-2 c =
    bad c.loop-rest.rest.now c.in-len1-up.len_at_least
    (sym c.is_ascii_digit-in-len1-up.ensures.value ∙ c.if-not-is_ascii_digit-2.true) ∙ c.loop-rest.invariant

pub loop-rest-preserved : goal.loop-rest-preserved
loop-rest-preserved c =
    more c.loop-rest.rest.now c.in-len1-up.len_at_least
    (sym c.is_ascii_digit-in-len1-up.ensures.value ∙ c.if-not-is_ascii_digit-2.false) (λ e. omega arith)
    ∙ c.loop-rest.invariant

pub loop-rest-preserved-in-95 : goal.loop-rest-preserved-in-95
loop-rest-preserved-in-95 c =
    passed c.loop-rest.rest.now c.in-95.len_at_least
    (sym c.is_ascii_digit-in-95.ensures.value ∙ c.if-not-is_ascii_digit.false) (omega arith) ∙ c.loop-rest.invariant
