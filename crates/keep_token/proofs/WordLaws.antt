-- A word that is found to be of a kind is of that kind, and a word of a kind is found, whole, and begins with no
-- quotation mark.
--
-- Theorems: `word_leaf_found`: what is found is of its kind; `word_leaf_again`: a word of a kind is found to be of it;
-- `word_len_again`: before what may follow a scalar it is the whole word.
use Rattle.std.proofs.Common.{◌≡◌, ℕ, ◌<◌, Bool, true, false, ◌==◌, List, [], ◌∷◌, ◌++◌, length, Some, refl, subst, inl}
use Rattle.std.proofs.Common.{inr, arith}
use Rattle.std.proofs.lemmas.Bool.{and_parts}
use Rattle.std.proofs.lemmas.Bool.Decides.{nat_tests}
use Rattle.std.specs.List.{list_all}
use Rattle.std.specs.Char.{is_ascii_digit}
use Rattle.keep_types.specs.declared.leaf.Profile.{Profile}
use Rattle.keep_types.specs.declared.leaf.Leaf.{Leaf}
use Rattle.keep_types.specs.declared.leaf.Leaf.TheVariants as leaf
use Rattle.keep_token.specs.Abnf.{is_word}
use Rattle.keep_token.specs.Leaves.{IsLeaf, is_word_leaf, word_len}
use Rattle.keep_token.specs.Scanning.{first, may_follow_scalar}
use Rattle.keep_token.specs.Words.{is_integer, is_float, is_boolean, is_date, is_time, is_date_time}
use Rattle.keep_token.specs.Words.{is_offset_date_time, word_leaf}
use Rattle.keep_token.proofs.RunLaws.{tested}
use Rattle.keep_token.proofs.NumberLaws.{integer_from, integer_to, boolean_from, boolean_to}
use Rattle.keep_token.proofs.FloatLaws.{float_from, float_to}
use Rattle.keep_token.proofs.NumberWords.{integer_word, float_word, boolean_word}
use Rattle.keep_token.proofs.NumberShapes.{float_not_integer, boolean_not_integer, boolean_not_float}
use Rattle.keep_token.proofs.DateLaws.{date_from, date_to, time_from, time_to, date_time_from, date_time_to}
use Rattle.keep_token.proofs.DateLaws.{offset_date_time_from, offset_date_time_to, within}
use Rattle.keep_token.proofs.DateShapes.{date_shows, time_shows, date_time_shows, offset_date_time_shows}
use Rattle.keep_token.proofs.DateNumbers.{word_leaf_date, word_leaf_time, word_leaf_date_time}
use Rattle.keep_token.proofs.DateNumbers.{word_leaf_offset_date_time}
use Rattle.keep_token.proofs.DateWords.{word_len_run, word_len_date, word_len_time, word_len_date_time}
use Rattle.keep_token.proofs.DateWords.{word_len_offset_date_time}

-- ---- what is found

found_as : (profile : Profile) (t : List ℕ) (k l : Leaf) → Some k ≡ Some l → is_word_leaf k ≡ true → IsLeaf profile k t
    → (is_word_leaf l ≡ true) × IsLeaf profile l t
found_as profile t k l e word is =
    let same : k ≡ l = cc in
    subst (λ (m : Leaf). (is_word_leaf m ≡ true) × IsLeaf profile m t) same (word, is)

pub word_leaf_found : (profile : Profile) (t : List ℕ) (l : Leaf) → word_leaf profile t ≡ Some l
    → (is_word_leaf l ≡ true) × IsLeaf profile l t
unfolding word_leaf
word_leaf_found profile t l h =
    elim (tested (is_integer t)) [
      | inl a ↦ found_as profile t leaf.Integer l (rw a at h) refl (integer_from t a)
      | inr a ↦ elim (tested (is_float t)) [
        | inl b ↦ found_as profile t leaf.Float l (rw (a, b) at h) refl (float_from t b)
        | inr b ↦ elim (tested (is_boolean t)) [
          | inl c ↦ found_as profile t leaf.Boolean l (rw (a, b, c) at h) refl (boolean_from t c)
          | inr c ↦ elim (tested (is_date t)) [
            | inl d ↦ found_as profile t leaf.LocalDate l (rw (a, b, c, d) at h) refl (date_from t d)
            | inr d ↦ elim (tested (is_time profile t)) [
              | inl e ↦ found_as profile t leaf.LocalTime l (rw (a, b, c, d, e) at h) refl (time_from profile t e)
              | inr e ↦ elim (tested (is_date_time profile t)) [
                | inl f ↦
                    found_as profile t leaf.LocalDateTime l (rw (a, b, c, d, e, f) at h) refl
                    (date_time_from profile t f)
                | inr f ↦ elim (tested (is_offset_date_time profile t)) [
                  | inl g ↦
                      found_as profile t leaf.OffsetDateTime l (rw (a, b, c, d, e, f, g) at h) refl
                      (offset_date_time_from profile t g)
                  | inr g ↦ absurd (let k = rw (a, b, c, d, e, f, g) at h in cc)
                ]
              ]
            ]
          ]
        ]
      ]
    ]

-- ---- what is found again

pub word_leaf_again : (profile : Profile) (l : Leaf) (t : List ℕ) → is_word_leaf l ≡ true → IsLeaf profile l t
    → word_leaf profile t ≡ Some l
unfolding word_leaf
word_leaf_again profile leaf.Integer t k h = rw (integer_to t h) refl
word_leaf_again profile leaf.Float t k h =
    let is = float_to t h in
    rw (float_not_integer t is, is) refl
word_leaf_again profile leaf.Boolean t k h =
    let is = boolean_to t h in
    rw (boolean_not_integer t is, boolean_not_float t is, is) refl
word_leaf_again profile leaf.LocalDate t k h = word_leaf_date profile t h
word_leaf_again profile leaf.LocalTime t k h = word_leaf_time profile t h
word_leaf_again profile leaf.LocalDateTime t k h = word_leaf_date_time profile t h
word_leaf_again profile leaf.OffsetDateTime t k h = word_leaf_offset_date_time profile t h
word_leaf_again profile _ t k h = absurd cc

-- ---- where it ends

pub word_len_again : (profile : Profile) (l : Leaf) (t rest : List ℕ) → is_word_leaf l ≡ true → IsLeaf profile l t
    → may_follow_scalar rest ≡ true → word_len (t ++ rest) ≡ length t
word_len_again profile leaf.Integer t rest k h may = word_len_run t rest (integer_word t h) may
word_len_again profile leaf.Float t rest k h may = word_len_run t rest (float_word t h) may
word_len_again profile leaf.Boolean t rest k h may = word_len_run t rest (boolean_word t h) may
word_len_again profile leaf.LocalDate t rest k h may = word_len_date profile t rest h may
word_len_again profile leaf.LocalTime t rest k h may = word_len_time profile t rest h may
word_len_again profile leaf.LocalDateTime t rest k h may = word_len_date_time profile t rest h may
word_len_again profile leaf.OffsetDateTime t rest k h may = word_len_offset_date_time profile t rest h may
word_len_again profile _ t rest k h may = absurd cc

-- ---- how it begins

-- not empty, and no string
abbrev pub BeginsWord : List ℕ → Type 0
BeginsWord t = (0 < length t) × ((first t == 0x22) ≡ false) × ((first t == 0x27) ≡ false)

word_byte : (c : ℕ) → is_word c ≡ true → ((c == 0x22) ≡ false) × ((c == 0x27) ≡ false)
word_byte c h = (grind (arith, nat_tests), grind (arith, nat_tests))

begins : (t : List ℕ) → is_word (first t) ≡ true → BeginsWord t
begins t h =
    let (quote, apostrophe) = word_byte (first t) h in
    (within t 0 is_word refl h, quote, apostrophe)

digit_word : (c : ℕ) → is_ascii_digit c ≡ true → is_word c ≡ true
digit_word c h = grind (arith, nat_tests)

run_first : (t : List ℕ) → (t ≡ [] → ⊥) → list_all is_word t ≡ true → BeginsWord t
run_first [] some h = absurd (some refl)
run_first (c ∷ cs) some h = begins (c ∷ cs) (and_parts (is_word c) (list_all is_word cs) h).0

-- a test that the empty text fails
not_empty : (test : List ℕ → Bool) (t : List ℕ) → test [] ≡ false → test t ≡ true → t ≡ [] → ⊥
not_empty test t none h e = let k = rw e at h in cc

pub word_first : (profile : Profile) (l : Leaf) (t : List ℕ) → IsLeaf profile l t → is_word_leaf l ≡ true
    → (0 < length t) × ((first t == 0x22) ≡ false) × ((first t == 0x27) ≡ false)
word_first profile leaf.Integer t h k = run_first t (not_empty is_integer t refl (integer_to t h)) (integer_word t h)
word_first profile leaf.Float t h k = run_first t (not_empty is_float t refl (float_to t h)) (float_word t h)
word_first profile leaf.Boolean t h k = run_first t (not_empty is_boolean t refl (boolean_to t h)) (boolean_word t h)
word_first profile leaf.LocalDate t h k = begins t (digit_word (first t) (date_shows t (date_to t h)).digit)
word_first profile leaf.LocalTime t h k =
    begins t (digit_word (first t) (time_shows profile t (time_to profile t h)).digit)
word_first profile leaf.LocalDateTime t h k =
    begins t (digit_word (first t) (date_time_shows profile t (date_time_to profile t h)).digit)
word_first profile leaf.OffsetDateTime t h k =
    begins t (digit_word (first t) (offset_date_time_shows profile t (offset_date_time_to profile t h)).digit)
word_first profile _ t h k = absurd cc
