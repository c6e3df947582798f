-- Integers with their values, floats, truth values, and words that are no scalars.
--
-- A text is an integer, a float or a truth value where the test of its kind computes to true (`integer_from`,
-- `float_from`, `boolean_from`); the value of an integer is computed too. A test decides all texts of a table at once
-- (`all_are`). A text is refused where `word_leaf` finds no word in it and no quote or apostrophe begins it
-- (`is_refused`). Then it is no scalar of any kind (`refused`): a string begins with one of the two, and each other
-- scalar is found by `word_leaf` (`word_leaf_again`). The same texts are refused in both profiles (`refused_strict`,
-- `refused_wide`).
--
-- Each row is a theorem of its own. So is each table of texts.
use Rattle.std.proofs.Common.{◌≡◌, ℕ, ℤ, pos, negsuc, Bool, true, false, not, ◌&&◌, ◌||◌, ◌==◌, List, [], ◌∷◌, Option}
use Rattle.std.proofs.Common.{Some, None, refl, sym, ◌∙◌}
use Rattle.std.specs.Prelude.{codes, is_none}
use Rattle.std.proofs.lemmas.Bool.{and_parts}
use Rattle.std.specs.List.{list_all}
use Rattle.keep_types.specs.declared.leaf.Profile.{Profile}
use Rattle.keep_types.specs.declared.leaf.Profile.TheVariants.{Strict, Wide}
use Rattle.keep_types.specs.declared.leaf.Leaf.{Leaf}
use Rattle.keep_types.specs.declared.leaf.Leaf.TheVariants as leaf
use Rattle.keep_token.specs.Numbers.{Integer, Float, Boolean, integer_value}
use Rattle.keep_token.specs.Leaves.{IsLeaf, is_scalar_leaf}
use Rattle.keep_token.specs.Scanning.{first}
use Rattle.keep_token.specs.Words.{is_float, word_leaf}
use Rattle.keep_token.proofs.NumberLaws.{integer_from, boolean_from}
use Rattle.keep_token.proofs.FloatLaws.{float_from}
use Rattle.keep_token.proofs.WordLaws.{word_leaf_again}

-- ---- integers

abbrev IsIntegerOf : List ℕ → ℤ → Type 0
IsIntegerOf t value = Integer t × (integer_value t ≡ value)

minus_zero : IsIntegerOf (codes "-0") (pos 0)
minus_zero = (integer_from (codes "-0") refl, refl)

plus_zero : IsIntegerOf (codes "+0") (pos 0)
plus_zero = (integer_from (codes "+0") refl, refl)

thousand : IsIntegerOf (codes "1_000") (pos 1000)
thousand = (integer_from (codes "1_000") refl, refl)

minus_thousand : IsIntegerOf (codes "-1_000") (negsuc 999)
minus_thousand = (integer_from (codes "-1_000") refl, refl)

binary : IsIntegerOf (codes "0b1_0") (pos 2)
binary = (integer_from (codes "0b1_0") refl, refl)

octal : IsIntegerOf (codes "0o007") (pos 7)
octal = (integer_from (codes "0o007") refl, refl)

hexadecimal : IsIntegerOf (codes "0xFf") (pos 255)
hexadecimal = (integer_from (codes "0xFf") refl, refl)

hexadecimal_word : IsIntegerOf (codes "0xdead_beef") (pos 0xDEAD_BEEF)
hexadecimal_word = (integer_from (codes "0xdead_beef") refl, refl)

hexadecimal_e : IsIntegerOf (codes "0x1e5") (pos 485)
hexadecimal_e = (integer_from (codes "0x1e5") refl, refl)

least : IsIntegerOf (codes "-9223372036854775808") (negsuc 0x7FFF_FFFF_FFFF_FFFF)
least = (integer_from (codes "-9223372036854775808") refl, refl)

most : IsIntegerOf (codes "+9223372036854775807") (pos 0x7FFF_FFFF_FFFF_FFFF)
most = (integer_from (codes "+9223372036854775807") refl, refl)

most_hexadecimal : IsIntegerOf (codes "0x7fffffffffffffff") (pos 0x7FFF_FFFF_FFFF_FFFF)
most_hexadecimal = (integer_from (codes "0x7fffffffffffffff") refl, refl)

most_octal : IsIntegerOf (codes "0o777777777777777777777") (pos 0x7FFF_FFFF_FFFF_FFFF)
most_octal = (integer_from (codes "0o777777777777777777777") refl, refl)

many_zeros : IsIntegerOf (codes "0b0000000000000000000000000000000000000000000000000000000000000000001") (pos 1)
many_zeros = (integer_from (codes "0b0000000000000000000000000000000000000000000000000000000000000000001") refl, refl)

-- ---- tables

abbrev AreAll : (List ℕ → Type 0) → List (List ℕ) → Type 0
AreAll P [] = Unit {0}
AreAll P (t ∷ ts) = P t × AreAll P ts

-- where a test decides a language, a table is decided at once
all_are : (P : List ℕ → Type 0) (test : List ℕ → Bool) → ((t : List ℕ) → test t ≡ true → P t) → (ts : List (List ℕ))
    → list_all test ts ≡ true → AreAll P ts
all_are P test from [] h = tt
all_are P test from (t ∷ ts) h =
    let (here, more) = and_parts (test t) (list_all test ts) h in
    (from t here, all_are P test from ts more)

-- ---- floats

abbrev float_texts : List (List ℕ)
float_texts =
    codes "1e06" ∷ codes "-0.0" ∷ codes "6.6_2E-3_4" ∷ codes "+inf" ∷ codes "nan" ∷ codes "-nan" ∷ codes "0e0"
    ∷ codes "+1_0.0_1e+00" ∷ codes "99999999999999999999.0" ∷ codes "3.1415"
    ∷ codes "5e+22" ∷ codes "-2E-2" ∷ codes "224_617.445_991_228" ∷ codes "inf" ∷ codes "-inf" ∷ codes "+nan"
    ∷ codes "1e00" ∷ codes "0.00" ∷ []

floats : AreAll Float float_texts
floats = all_are Float is_float float_from float_texts refl

-- ---- truth values

yes_text : Boolean (codes "true")
yes_text = boolean_from (codes "true") refl

no_text : Boolean (codes "false")
no_text = boolean_from (codes "false") refl

-- ---- refused words

abbrev IsNoScalar : Profile → List ℕ → Type 0
IsNoScalar profile t = (l : Leaf) → is_scalar_leaf l ≡ true → IsLeaf profile l t → ⊥

-- no word, and no mark of a string at the start
abbrev is_refused : Profile → List ℕ → Bool
is_refused profile t = is_none (word_leaf profile t) && not (first t == 0x22 || first t == 0x27)

none_is : (o : Option Leaf) → is_none o ≡ true → o ≡ None
none_is None h = refl
none_is (Some l) h = absurd cc

no_string : (a b : Bool) → not (a || b) ≡ true → (a ≡ false) × (b ≡ false)
no_string false false h = (refl, refl)
no_string _ _ h = absurd cc

no_word : (profile : Profile) (l : Leaf) (t : List ℕ) → word_leaf profile t ≡ None → word_leaf profile t ≡ Some l → ⊥
no_word profile l t none some = let e = sym none ∙ some in cc

by_kind : (profile : Profile) (t : List ℕ) → word_leaf profile t ≡ None → (first t == 0x22) ≡ false
    → (first t == 0x27) ≡ false → (l : Leaf) → is_scalar_leaf l ≡ true → IsLeaf profile l t → ⊥
by_kind profile t none quote apostrophe leaf.Basic s (pieces, h) = let k = rw h.spelled at quote in cc
by_kind profile t none quote apostrophe leaf.Literal s (pieces, h) = let k = rw h.spelled at apostrophe in cc
by_kind profile t none quote apostrophe leaf.MlBasic s (pieces, h) = let k = rw h.spelled at quote in cc
by_kind profile t none quote apostrophe leaf.MlLiteral s (pieces, h) = let k = rw h.spelled at apostrophe in cc
by_kind profile t none quote apostrophe leaf.Integer s h =
    no_word profile leaf.Integer t none (word_leaf_again profile leaf.Integer t refl h)
by_kind profile t none quote apostrophe leaf.Float s h =
    no_word profile leaf.Float t none (word_leaf_again profile leaf.Float t refl h)
by_kind profile t none quote apostrophe leaf.Boolean s h =
    no_word profile leaf.Boolean t none (word_leaf_again profile leaf.Boolean t refl h)
by_kind profile t none quote apostrophe leaf.LocalDate s h =
    no_word profile leaf.LocalDate t none (word_leaf_again profile leaf.LocalDate t refl h)
by_kind profile t none quote apostrophe leaf.LocalTime s h =
    no_word profile leaf.LocalTime t none (word_leaf_again profile leaf.LocalTime t refl h)
by_kind profile t none quote apostrophe leaf.LocalDateTime s h =
    no_word profile leaf.LocalDateTime t none (word_leaf_again profile leaf.LocalDateTime t refl h)
by_kind profile t none quote apostrophe leaf.OffsetDateTime s h =
    no_word profile leaf.OffsetDateTime t none (word_leaf_again profile leaf.OffsetDateTime t refl h)
by_kind profile t none quote apostrophe _ s h = absurd cc

refused : (profile : Profile) (t : List ℕ) → is_refused profile t ≡ true → IsNoScalar profile t
refused profile t h =
    let (none, string) = and_parts (is_none (word_leaf profile t)) (not (first t == 0x22 || first t == 0x27)) h in
    let (quote, apostrophe) = no_string (first t == 0x22) (first t == 0x27) string in
    by_kind profile t (none_is (word_leaf profile t) none) quote apostrophe

abbrev refused_texts : List (List ℕ)
refused_texts =
    codes "01" ∷ codes "1__0" ∷ codes "_1" ∷ codes "1_" ∷ codes "0X1" ∷ codes "+0x1" ∷ codes "-0x1" ∷ codes "0xG"
    ∷ codes "0x" ∷ codes "0x_1" ∷ codes "0o8" ∷ codes "0b2" ∷ codes "0O7" ∷ codes "0B1"
    ∷ codes "9223372036854775808" ∷ codes "-9223372036854775809" ∷ codes "0x8000000000000000"
    ∷ codes "0o1000000000000000000000" ∷ codes "36893488147419103233" ∷ codes "-36893488147419103233"
    ∷ codes "1." ∷ codes "1.e5" ∷ codes ".5" ∷ codes "1e" ∷ codes "1e+" ∷ codes "1e_5" ∷ codes "1_.5" ∷ codes "1._5"
    ∷ codes "01.5" ∷ codes "1.5_" ∷ codes "1e5.0" ∷ codes "1.2.3" ∷ codes "+-1" ∷ codes "+" ∷ codes "-"
    ∷ codes "infinity" ∷ codes "Inf" ∷ codes "+ inf" ∷ codes "NaN" ∷ codes "True" ∷ codes "TRUE" ∷ codes "tru"
    ∷ codes "truex" ∷ codes "+true" ∷ codes "" ∷ codes " 1" ∷ codes ", 1" ∷ []

refused_strict : AreAll (IsNoScalar Strict) refused_texts
unfolding word_leaf
refused_strict = all_are (IsNoScalar Strict) (is_refused Strict) (refused Strict) refused_texts refl

refused_wide : AreAll (IsNoScalar Wide) refused_texts
unfolding word_leaf
refused_wide = all_are (IsNoScalar Wide) (is_refused Wide) (refused Wide) refused_texts refl
