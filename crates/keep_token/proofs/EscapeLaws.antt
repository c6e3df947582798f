-- The escape after a backslash is found by its letter, and by its digits where the letter asks for some.
--
-- Theorems: `letter_found`: an escape of one letter; `number_found`: one with digits.
use Rattle.std.proofs.Common.{◌≡◌, ℕ, ◌+◌, ◌<◌, true, false, ◌==◌, List, [], ◌∷◌, length, take, Option, Some, refl, sym}
use Rattle.std.proofs.Common.{ap, ◌∙◌, arith, inl, inr, eq-eqb}
use Rattle.std.specs.Prelude.{nat_lt}
use Rattle.std.specs.Char.{encode_utf8, is_digit, InScalarRange}
use Rattle.std.specs.List.{list_all}
use Rattle.std.proofs.lemmas.Bool.{lt-ltb}
use Rattle.std.proofs.lemmas.Bool.Decides.{nat_tests}
use Rattle.std.proofs.lemmas.Str.{encode_ascii}
use Rattle.keep_types.specs.declared.leaf.Profile.{Profile}
use Rattle.keep_types.specs.declared.leaf.Profile.TheVariants.{Strict, Wide}
use Rattle.keep_token.specs.Numbers.{sum_of_digits}
use Rattle.keep_token.specs.Strings.{Piece, Letter, Number, piece_text, piece_value, letter_value, digit_count}
use Rattle.keep_token.specs.Strings.{is_scalar}
use Rattle.keep_token.specs.Pieces.{escape_at}

-- an escape of so many bytes that stands for this character
abbrev pub Occurs : Option Piece → ℕ → ℕ → Type 0
Occurs found n value =
    (p : Piece) × (found ≡ Some p) × (n ≡ length (piece_text p)) × (encode_utf8 value ≡ piece_value p)

wide_value : (profile : Profile) (c : ℕ) → 0 < letter_value profile c → letter_value Wide c ≡ letter_value profile c
wide_value Strict c h = grind (arith, nat_tests)
wide_value Wide c h = refl

pub letter_found : (profile : Profile) (c v : ℕ) (cs : List ℕ) → 0 < v → v < 0x80 → letter_value profile c ≡ v
    → Occurs (escape_at profile (c ∷ cs)) 2 v
letter_found profile c v cs some small e =
    let test : nat_lt 0 (letter_value profile c) ≡ true = lt-ltb 0 (letter_value profile c) (omega (arith, e)) in
    let wide : v ≡ letter_value Wide c = sym e ∙ sym (wide_value profile c (omega (arith, e))) in
    (Letter c, rw test refl, refl, encode_ascii v small ∙ ap (λ (b : ℕ). b ∷ []) wide)

is_scalar_from : (n : ℕ) → InScalarRange n → is_scalar n ≡ true
is_scalar_from n (inl h) = grind (arith, nat_tests)
is_scalar_from n (inr h) = grind (arith, nat_tests)

pub number_found : (profile : Profile) (c count v : ℕ) (cs digits : List ℕ) → letter_value profile c ≡ 0
    → count ≡ digit_count profile c → 0 < count
    → digits ≡ take count cs → length digits ≡ count → list_all (λ d. is_digit d 16) digits ≡ true
    → v ≡ sum_of_digits 16 digits → InScalarRange v
    → Occurs (escape_at profile (c ∷ cs)) (2 + count) v
number_found profile c count v cs digits none asked some cut whole all value scalar =
    let not_letter : nat_lt 0 (letter_value profile c) ≡ false = ap (nat_lt 0) none in
    let number : nat_lt 0 (digit_count profile c) ≡ true = lt-ltb 0 (digit_count profile c) (omega (arith, asked)) in
    let same : take (digit_count profile c) cs ≡ digits = ap (λ n. take n cs) (sym asked) ∙ sym cut in
    let len : (length digits == digit_count profile c) ≡ true =
    eq-eqb (length digits) (digit_count profile c) (whole ∙ asked) in
    let good : is_scalar (sum_of_digits 16 digits) ≡ true = ap is_scalar (sym value) ∙ is_scalar_from v scalar in
    (Number c digits, rw (not_letter, number, same, len, all, good) refl, omega (arith, whole), ap encode_utf8 value)
