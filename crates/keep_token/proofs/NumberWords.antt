-- All bytes of an integer, a float or a truth value are bytes of a word.
--
-- Theorems: `integer_word`, `float_word` and `boolean_word`.
use Rattle.std.proofs.Common.{◌≡◌, ℕ, ◌≤◌, true, ◌||◌, ◌==◌, List, [], ◌∷◌, ◌++◌, refl, inl, inr, arith}
use Rattle.std.proofs.lemmas.Bool.Decides.{nat_tests}
use Rattle.std.specs.List.{list_all}
use Rattle.std.specs.Char.{is_ascii_digit}
use Rattle.keep_token.specs.Abnf.{Maybe, One, ◌⨾◌, is_word}
use Rattle.keep_token.specs.Numbers.{Decimal, Digits, Prefixed, IntegerText, Integer, Fraction, Exponent, Float}
use Rattle.keep_token.specs.Numbers.{Boolean, is_sign, is_in_base}
use Rattle.keep_token.proofs.RunLaws.{list_all-both}
use Rattle.keep_token.proofs.NumberLaws.{decimal_to}
use Rattle.keep_token.proofs.FloatLaws.{digits_pass, decimal_pass}

digit_word : (c : ℕ) → is_ascii_digit c ≡ true → is_word c ≡ true
digit_word c h = grind (arith, nat_tests)

sign_word : (c : ℕ) → is_sign c ≡ true → is_word c ≡ true
sign_word c h = grind (arith, nat_tests)

base_word : (base c : ℕ) → base ≤ 16 → is_in_base base c ≡ true → is_word c ≡ true
base_word base c small h = grind (arith, nat_tests)

e_word : (c : ℕ) → (c == 0x65 || c == 0x45) ≡ true → is_word c ≡ true
e_word c h = grind (arith, nat_tests)

digits_word : (ds : List ℕ) → Digits is_ascii_digit ds → list_all is_word ds ≡ true
digits_word = digits_pass is_ascii_digit is_word digit_word refl

decimal_word : (t : List ℕ) → Decimal t → list_all is_word t ≡ true
decimal_word t h = decimal_pass is_word digit_word sign_word refl t (decimal_to t h)

prefixed_word : (base : ℕ) (p t : List ℕ) → base ≤ 16 → list_all is_word p ≡ true → Prefixed base p t
    → list_all is_word t ≡ true
prefixed_word base p t small prefix (a, b, e, f, digits) =
    rw (e, f) (list_all-both is_word p b prefix
    (digits_pass (is_in_base base) is_word (λ c h. base_word base c small h) refl b digits))

integer_text_word : (t : List ℕ) → IntegerText t → list_all is_word t ≡ true
integer_text_word t (inl h) = decimal_word t h
integer_text_word t (inr (inl h)) = prefixed_word 16 (0x30 ∷ 0x78 ∷ []) t (omega arith) refl h
integer_text_word t (inr (inr (inl h))) = prefixed_word 8 (0x30 ∷ 0x6F ∷ []) t (omega arith) refl h
integer_text_word t (inr (inr (inr h))) = prefixed_word 2 (0x30 ∷ 0x62 ∷ []) t (omega arith) refl h

pub integer_word : (t : List ℕ) → Integer t → list_all is_word t ≡ true
integer_word t h = integer_text_word t h.0

signed_word : (t : List ℕ) → (Maybe (One is_sign) ⨾ Digits is_ascii_digit) t → list_all is_word t ≡ true
signed_word t (a, b, e, inl none, d) = rw (e, none) (digits_word b d)
signed_word t (a, b, e, inr (c, one, sign), d) = rw (e, one, sign_word c sign) (digits_word b d)

exponent_word : (t : List ℕ) → Exponent t → list_all is_word t ≡ true
exponent_word t (a, b, e, (c, one, is), s) = rw (e, one, e_word c is) (signed_word b s)

fraction_word : (t : List ℕ) → Fraction t → list_all is_word t ≡ true
fraction_word t (a, b, e, dot, d) = rw (e, dot) (digits_word b d)

pub float_word : (t : List ℕ) → Float t → list_all is_word t ≡ true
float_word t (inl (a, b, e, d, inl x)) = rw e (list_all-both is_word a b (decimal_word a d) (exponent_word b x))
float_word t (inl (a, b, e, d, inr (f, x, g, frac, inl none))) =
    rw (
      e,
      g,
      none,
    ) (list_all-both is_word a (f ++ []) (decimal_word a d) (list_all-both is_word f [] (fraction_word f frac) refl))
float_word t (inl (a, b, e, d, inr (f, x, g, frac, inr h))) =
    rw (e, g) (list_all-both is_word a (f ++ x) (decimal_word a d)
    (list_all-both is_word f x (fraction_word f frac) (exponent_word x h)))
float_word t (inr (a, b, e, inl none, inl w)) = rw (e, none, w) refl
float_word t (inr (a, b, e, inl none, inr w)) = rw (e, none, w) refl
float_word t (inr (a, b, e, inr (c, one, sign), inl w)) = rw (e, one, w, sign_word c sign) refl
float_word t (inr (a, b, e, inr (c, one, sign), inr w)) = rw (e, one, w, sign_word c sign) refl

pub boolean_word : (t : List ℕ) → Boolean t → list_all is_word t ≡ true
boolean_word t (inl e) = rw e refl
boolean_word t (inr e) = rw e refl
