-- The value of digits, read from the left: what is read so far, and what each further digit makes of it.
--
-- `SoFar` is what each iteration preserves: the value so far, times the base to the power of the digits left, plus the
-- value of the rest is the value of all; and the rest is a text of digits exactly where the whole is. A further digit
-- multiplies the value by the base and adds to it (`so_far_digit`); an underscore between digits is passed over
-- (`so_far_passed`). After the last digit no rest is left, so the value is that of all (`so_far_last`). There is no
-- value below 2 ^ 64 (`IsBelow`) where the rest is empty before a digit (`so_far_over`), where it begins with no digit
-- (`so_far_bad`), and where the value so far is too large (`so_far_large`), because the digits after it make it no less
-- (`at_least`).
--
-- Theorems: `so_far_more`: the value after one digit more; `so_far_last`: after the last digit it is the value of all;
-- `so_far_large`: a number that does not fit.
use Rattle.std.proofs.Common.{◌≡◌, ℕ, zero, suc, ◌+◌, ◌-◌, ◌*◌, ◌^◌, ◌<◌, ◌≤◌, Bool, true, false, not, cond, ◌==◌, List}
use Rattle.std.proofs.Common.{[], ◌∷◌, length, get_or, take, drop, refl, sym, ◌∙◌, arith}
use Rattle.std.specs.Prelude.{IsTrue, filter, Option, None, SomeIff}
use Rattle.std.proofs.lemmas.Nat.{mul-le}
use Rattle.std.proofs.Math.Nat.{pow-zero, pow-succ', mul-le-mul_left}
use Rattle.std.proofs.lemmas.Bool.{and_parts, lt-ltb, ltb-true}
use Rattle.std.proofs.lemmas.Bool.Decides.{nat_tests}
use Rattle.std.specs.Char.{digit_value}
use Rattle.keep_token.specs.Numbers.{is_digits, is_in_base, is_underscore, digits_value}
use Rattle.keep_token.proofs.RunLaws.{take_all}

-- how many digits are in a text
abbrev pub digit_count : List ℕ → ℕ
digit_count t = length (filter (λ c. not (is_underscore c)) t)

-- the digits so far have this value, and the rest is still to be read
pub record SoFar (base : ℕ) (digits : List ℕ) (value : ℕ) (rest : List ℕ) : Type 0 where
  pub same : is_digits (is_in_base base) rest ≡ is_digits (is_in_base base) digits
  pub sum : value * base ^ digit_count rest + digits_value base rest ≡ digits_value base digits

abbrev pub IsBelow : ℕ → List ℕ → Type 0
IsBelow base digits = IsTrue (is_digits (is_in_base base) digits) × (digits_value base digits < 2 ^ 64)

pub so_far_none : (base : ℕ) (digits : List ℕ) → SoFar base digits 0 digits
so_far_none base digits = record { same = refl; sum = omega arith }

pub so_far_empty : (base : ℕ) (digits : List ℕ) (value : ℕ) → SoFar base digits value [] → IsBelow base digits → ⊥
so_far_empty base digits value s p = let h = s.same in let k = p.0 in cc

pub so_far_over : (base : ℕ) (digits : List ℕ) (value : ℕ) (rest : List ℕ) → length rest ≡ 0
    → SoFar base digits value rest → IsBelow base digits → ⊥
so_far_over base digits value [] e s = so_far_empty base digits value s
so_far_over base digits value (c ∷ cs) e s = absurd (omega arith)

-- a text of digits begins with one
pub digits_prefix : (digit : ℕ → Bool) (d : ℕ) (ds : List ℕ) → is_digits digit (d ∷ ds) ≡ true → digit d ≡ true
digits_prefix digit d [] h = h
digits_prefix digit d (c ∷ cs) h =
    (and_parts (digit d) (cond (c == 0x5F) (is_digits digit cs) (is_digits digit (c ∷ cs))) h).0

pub so_far_bad : (base : ℕ) (digits : List ℕ) (value d : ℕ) (more : List ℕ) → SoFar base digits value (d ∷ more)
    → (digit_value d < base → ⊥) → IsBelow base digits → ⊥
so_far_bad base digits value d more s bad p =
    let prefix = digits_prefix (is_in_base base) d more (s.same ∙ p.0) in
    bad (ltb-true _ _ prefix)

-- a digit is no underscore
digit_no_underscore : (base d : ℕ) → base ≤ 16 → digit_value d < base → is_underscore d ≡ false
digit_no_underscore base d small h = grind (arith, nat_tests)

digits_value_digit : (base d : ℕ) (more : List ℕ) → is_underscore d ≡ false
    → (digits_value base (d ∷ more) ≡ digit_value d * base ^ digit_count more + digits_value base more)
    × (digit_count (d ∷ more) ≡ suc (digit_count more))
digits_value_digit base d more e = (rw e refl, rw e refl)

-- one digit more, where p is the power of the base after it
next_digit : (value base p d more all : ℕ) → value * (base * p) + (d * p + more) ≡ all
    → (value * base + d) * p + more ≡ all
next_digit value base p d more all e = omega (arith, e)

one_digit : (v all : ℕ) → v * 1 + 0 ≡ all → v ≡ all
one_digit v all e = omega (arith, e)

-- a byte of the rest is read as a digit
pub record Reads (base : ℕ) (rest : List ℕ) (b : ℕ) (more : List ℕ) : Type 0 where
  pub from : 2 ≤ base
  pub to : base ≤ 16
  pub digit : digit_value b < base
  pub rest_is : rest ≡ b ∷ more

so_far_digit : (base : ℕ) (digits : List ℕ) (value b : ℕ) (more : List ℕ) → base ≤ 16 → digit_value b < base
    → SoFar base digits value (b ∷ more)
    → (value * base + digit_value b) * base ^ digit_count more + digits_value base more ≡ digits_value base digits
so_far_digit base digits value b more small h s =
    let (sum, count) = digits_value_digit base b more (digit_no_underscore base b small h) in
    let e : value * base ^ suc (digit_count more) + (digit_value b * base ^ digit_count more + digits_value base more)
    ≡ digits_value base digits = rw (count, sum) at s.sum in
    next_digit value base (base ^ digit_count more) (digit_value b) (digits_value base more) (digits_value base digits)
    (rw (pow-succ' base (digit_count more)) at e)

so_far_read : (base : ℕ) (digits : List ℕ) (value b : ℕ) (rest more : List ℕ) → Reads base rest b more
    → SoFar base digits value rest
    → (value * base + digit_value b) * base ^ digit_count more + digits_value base more ≡ digits_value base digits
so_far_read base digits value b rest more r s = so_far_digit base digits value b more r.to r.digit (rw r.rest_is at s)

pow_positive : (base n : ℕ) → 0 < base → 0 < base ^ n
pow_positive base zero h = rw (pow-zero base) (omega arith)
pow_positive base (suc n) h =
    rw (pow-succ' base n) (omega (arith, mul-le 1 1 base (base ^ n) h (pow_positive base n h)))

at_least : (a p : ℕ) → 0 < p → a ≤ a * p
at_least a p h = let k = mul-le-mul_left a h in omega (arith, k)

-- a number past 64 bits stays past them
pub so_far_large : (base : ℕ) (digits : List ℕ) (value b : ℕ) (rest more : List ℕ) → Reads base rest b more
    → SoFar base digits value rest → (value * base + digit_value b < 2 ^ 64 → ⊥) → IsBelow base digits → ⊥
so_far_large base digits value b rest more r s large p =
    let sum = so_far_read base digits value b rest more r s in
    let positive = pow_positive base (digit_count more) (omega (arith, r.from)) in
    let grown = at_least (value * base + digit_value b) (base ^ digit_count more) positive in
    large (omega (arith, p.1, sum, grown))

none_left : (t : List ℕ) → length t ≡ 0 → t ≡ []
none_left [] e = refl
none_left (c ∷ cs) e = absurd (omega arith)

pub so_far_last : (base : ℕ) (digits : List ℕ) (value b : ℕ) (rest more : List ℕ) → Reads base rest b more
    → SoFar base digits value rest → length more ≡ 0 → value * base + digit_value b < 2 ^ 64
    → IsBelow base digits × (value * base + digit_value b ≡ digits_value base digits)
so_far_last base digits value b rest more r s empty fits =
    let none : more ≡ [] = none_left more empty in
    let sum : value * base + digit_value b ≡ digits_value base digits =
    let e = so_far_read base digits value b rest more r s in
    let f = rw none at e in
    one_digit (value * base + digit_value b) (digits_value base digits) (rw (pow-zero base) at f) in
    let digit : is_in_base base b ≡ true = lt-ltb _ _ r.digit in
    let all : is_digits (is_in_base base) digits ≡ true = sym s.same ∙ rw (r.rest_is, none) digit in
    ((all, omega (arith, sum)), sum)

so_far_next : (base : ℕ) (digits : List ℕ) (value b : ℕ) (rest more : List ℕ) (c : ℕ) (cs : List ℕ)
    → Reads base rest b more → SoFar base digits value rest → more ≡ c ∷ cs
    → is_digits (is_in_base base) rest
    ≡ cond (c == 0x5F) (is_digits (is_in_base base) cs) (is_digits (is_in_base base) (c ∷ cs))
so_far_next base digits value b rest more c cs r s e =
    let digit : is_in_base base b ≡ true = lt-ltb _ _ r.digit in
    rw (r.rest_is, e, digit) refl

so_far_underscore : (base : ℕ) (digits : List ℕ) (value b : ℕ) (rest more ds : List ℕ) → Reads base rest b more
    → SoFar base digits value rest → more ≡ 0x5F ∷ ds → SoFar base digits (value * base + digit_value b) ds
so_far_underscore base digits value b rest more ds r s e = record {
  same = sym (so_far_next base digits value b rest more 0x5F ds r s e) ∙ s.same;
  sum = rw e at (so_far_read base digits value b rest more r s);
}

-- an underscore between two digits is passed over
pub so_far_passed : (base : ℕ) (digits : List ℕ) (value b : ℕ) (rest more : List ℕ) → Reads base rest b more
    → SoFar base digits value rest → 1 ≤ length more → get_or more 0 0 ≡ 0x5F
    → SoFar base digits (value * base + digit_value b) (take (length more - 1) (drop 1 more))
so_far_passed base digits value b rest [] r s some is = absurd (omega arith)
so_far_passed base digits value b rest (c ∷ cs) r s some is =
    let spelled : take (length (c ∷ cs) - 1) cs ≡ cs = let n : length (c ∷ cs) - 1 ≡ length cs = omega arith in
    rw n (take_all cs) in
    rw spelled (so_far_underscore base digits value b rest (c ∷ cs) cs r s (rw is refl))

pub so_far_more : (base : ℕ) (digits : List ℕ) (value b : ℕ) (rest more : List ℕ) → Reads base rest b more
    → SoFar base digits value rest → 1 ≤ length more → (get_or more 0 0 ≡ 0x5F → ⊥)
    → SoFar base digits (value * base + digit_value b) more
so_far_more base digits value b rest [] r s some other = absurd (omega arith)
so_far_more base digits value b rest (c ∷ cs) r s some other =
    let plain : (c == 0x5F) ≡ false = grind (arith, nat_tests) in
    let next : is_digits (is_in_base base) rest ≡ is_digits (is_in_base base) (c ∷ cs) =
    rw plain at (so_far_next base digits value b rest (c ∷ cs) c cs r s refl) in
    record {
      same = sym next ∙ s.same;
      sum = so_far_read base digits value b rest (c ∷ cs) r s;
    }

pub none_if : (r : Option ℕ) (P : Type 0) (v : ℕ) → r ≡ None → (P → ⊥) → SomeIff r P v
none_if r P v e never = rw e never
