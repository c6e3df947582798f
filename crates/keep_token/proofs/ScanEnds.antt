-- A key part and a scalar end where a character ends, and what a scan answers is the leaf at the place and no other.
--
-- Theorems: `key_ends`: a key part ends where a character ends; `scalar_ends`: so does a scalar; `only_found`: where
-- one leaf is found, it is the only one.
use Rattle.std.proofs.Common.{◌≡◌, ℕ, ◌+◌, ◌-◌, ◌<◌, ◌≤◌, true, ◌&&◌, ◌==◌, List, length, get_or, take, drop, Option}
use Rattle.std.proofs.Common.{Some, None, Result, Ok, refl, sym, ap, ◌∙◌, inl, inr, arith, add-zero, get_or-drop}
use Rattle.std.specs.Prelude.{IsUtf8, IsCharBoundary}
use Rattle.std.proofs.lemmas.Bool.{and_parts}
use Rattle.std.proofs.lemmas.Bool.Decides.{nat_tests}
use Rattle.std.proofs.lemmas.List.Sums.{prefix_len_passes}
use Rattle.std.proofs.lemmas.Str.{IsUtf8-drop, IsCharBoundary-from_rest}
use Rattle.std.specs.List.{prefix_len}
use Rattle.std.specs.Char.{is_ascii_digit}
use Rattle.keep_types.specs.declared.leaf.Profile.{Profile}
use Rattle.keep_types.specs.declared.leaf.Leaf.{Leaf}
use Rattle.keep_types.specs.declared.leaf.Leaf.TheVariants as leaf
use Rattle.keep_token.specs.Abnf.{Some1, is_bare, is_word}
use Rattle.keep_token.specs.Leaves.{IsLeaf, KeyLeaf, ScalarLeaf, is_key_leaf, word_len, has_date_shape}
use Rattle.keep_token.specs.Pieces.{first}
use Rattle.keep_token.specs.Scanning.{key_at, scalar_at}
use Rattle.keep_token.proofs.GapLaws.{tested, prefix_len-positive}
use Rattle.keep_token.proofs.GapLeaves.{all_pass}
use Rattle.keep_token.proofs.Ends.{after_ascii, last_of, some_injective}
use Rattle.keep_token.proofs.KeyLaws.{key_leaf, key_found}
use Rattle.keep_token.proofs.ScalarLaws.{scalar_leaf, scalar_found, scalar_kind, a_word, a_basic, a_literal, a_ml_basic}
use Rattle.keep_token.proofs.ScalarLaws.{a_ml_literal}
use Rattle.keep_token.proofs.StringUtf8.{basic_boundary, literal_boundary, ml_basic_boundary, ml_literal_boundary}

-- a place in the rest of a text is a place in the text
moved_boundary : (text : List ℕ) (at n : ℕ) → IsCharBoundary text at → IsCharBoundary (drop at text) n
    → IsCharBoundary text (at + n)
moved_boundary text at n here there = IsCharBoundary-from_rest text at n here.0 there

-- ---- key parts

bare_last : (t : List ℕ) → Some1 is_bare t → get_or t (length t - 1) 0 < 128
bare_last t h =
    let pass : is_bare (get_or t (length t - 1) 0) ≡ true =
    all_pass is_bare t (length t - 1) h.1 (omega (arith, h.0)) in
    grind (arith, nat_tests)

key_ends_by : (profile : Profile) (text : List ℕ) (at : ℕ) (l : Leaf) (n : ℕ) → IsUtf8 text → IsCharBoundary text at
    → is_key_leaf l ≡ true → 0 < n → n ≤ length (drop at text) → IsLeaf profile l (take n (drop at text))
    → IsCharBoundary text (at + n)
key_ends_by profile text at leaf.BareKey n utf8 here k some le h =
    after_ascii text at n utf8 some le (last_of (drop at text) n some le (bare_last (take n (drop at text)) h))
key_ends_by profile text at leaf.Basic n utf8 here k some le h =
    moved_boundary text at n here (basic_boundary profile (drop at text) n (IsUtf8-drop text at utf8 here) le h)
key_ends_by profile text at leaf.Literal n utf8 here k some le h =
    moved_boundary text at n here (literal_boundary (drop at text) n (IsUtf8-drop text at utf8 here) le h)
key_ends_by profile text at _ n utf8 here k some le h = absurd cc

pub key_ends : (profile : Profile) (text : List ℕ) (at : ℕ) (l : Leaf) (n : ℕ) → IsUtf8 text → IsCharBoundary text at
    → key_at profile (drop at text) ≡ Some (l, n) → IsCharBoundary text (at + n)
key_ends profile text at l n utf8 here found =
    let (kind, some, le, belongs) = key_found profile (drop at text) l n found in
    key_ends_by profile text at l n utf8 here kind some le belongs

-- ---- scalars

low_word : (c : ℕ) → is_word c ≡ true → c < 128
low_word c h = grind (arith, nat_tests)

digit_word : (c : ℕ) → is_ascii_digit c ≡ true → is_word c ≡ true
digit_word c h = grind (arith, nat_tests)

-- the last byte of a word
word_last : (text : List ℕ) → 0 < word_len text → get_or text (word_len text - 1) 0 < 128
word_last text some =
    let run = prefix_len is_word text in
    elim (tested (has_date_shape (take run text)
    && (get_or text run 0 == 0x20 && is_ascii_digit (get_or text (run + 1) 0)))) [
      | inl e ↦
          let digit =
          (and_parts (get_or text run 0 == 0x20) (is_ascii_digit (get_or text (run + 1) 0))
          (and_parts (has_date_shape (take run text)) _ e).1).1 in
          let more = prefix_len is_word (drop (run + 1) text) in
          let begins : is_word (first (drop (run + 1) text)) ≡ true =
          rw (get_or-drop (run + 1) text 0 0, add-zero) (digit_word (get_or text (run + 1) 0) digit) in
          let positive : 0 < more = prefix_len-positive is_word (drop (run + 1) text) refl begins in
          let pass : is_word (get_or (drop (run + 1) text) (more - 1) 0) ≡ true =
          prefix_len_passes is_word (drop (run + 1) text) (more - 1) 0 (omega arith) in
          let low : get_or text (run + 1 + (more - 1)) 0 < 128 =
          rw (get_or-drop (run + 1) text (more - 1) 0) at (low_word (get_or (drop (run + 1) text) (more - 1) 0) pass) in
          let same : run + 1 + (more - 1) ≡ run + 1 + more - 1 = omega arith in
          rw e (rw same at low)
      | inr e ↦
          let len : word_len text ≡ run = rw e refl in
          let positive : 0 < run = rw len at some in
          rw e (low_word (get_or text (run - 1) 0) (prefix_len_passes is_word text (run - 1) 0 (omega arith)))
    ]

scalar_ends_by : (profile : Profile) (text : List ℕ) (at : ℕ) (l : Leaf) (n : ℕ) → IsUtf8 text → IsCharBoundary text at
    → 0 < n → ScalarLeaf profile (drop at text) l n → IsCharBoundary text (at + n)
scalar_ends_by profile text at l n utf8 here some h =
    elim (scalar_kind l h.kind) [
      | a_word e ↦
          let len = h.word e in
          let positive : 0 < word_len (drop at text) = rw len at some in
          let low : get_or (drop at text) (n - 1) 0 < 128 = rw len (word_last (drop at text) positive) in
          after_ascii text at n utf8 some h.within low
      | a_basic e ↦
          moved_boundary text at n here (basic_boundary profile (drop at text) n (IsUtf8-drop text at utf8 here)
          h.within (rw e at h.belongs))
      | a_literal e ↦
          moved_boundary text at n here (literal_boundary (drop at text) n (IsUtf8-drop text at utf8 here) h.within
          (rw e at h.belongs))
      | a_ml_basic e ↦
          moved_boundary text at n here (ml_basic_boundary profile (drop at text) n (IsUtf8-drop text at utf8 here)
          h.within (rw e at h.belongs))
      | a_ml_literal e ↦
          moved_boundary text at n here (ml_literal_boundary (drop at text) n (IsUtf8-drop text at utf8 here) h.within
          (rw e at h.belongs))
    ]

pub scalar_ends : (profile : Profile) (text : List ℕ) (at : ℕ) (l : Leaf) (n : ℕ) → IsUtf8 text → IsCharBoundary text at
    → scalar_at profile (drop at text) ≡ Some (l, n) → IsCharBoundary text (at + n)
scalar_ends profile text at l n utf8 here found =
    let (kind, some, le, belongs) = scalar_found profile (drop at text) l n found in
    scalar_ends_by profile text at l n utf8 here some (scalar_leaf profile (drop at text) l n found)

-- ---- the leaf at a place, from what was found

pub key_at_place : (profile : Profile) (text : List ℕ) (at : ℕ) (l : Leaf) (n : ℕ)
    → key_at profile (drop at text) ≡ Some (l, n) → (at < at + n) × KeyLeaf profile (drop at text) l (at + n - at)
key_at_place profile text at l n e =
    let (kind, some, le, belongs) = key_found profile (drop at text) l n e in
    let same : at + n - at ≡ n = omega arith in
    (omega arith, rw same (key_leaf profile (drop at text) l n e))

pub scalar_at_place : (profile : Profile) (text : List ℕ) (at : ℕ) (l : Leaf) (n : ℕ)
    → scalar_at profile (drop at text) ≡ Some (l, n) → (at < at + n) × ScalarLeaf profile (drop at text) l (at + n - at)
scalar_at_place profile text at l n e =
    let (kind, some, le, belongs) = scalar_found profile (drop at text) l n e in
    let same : at + n - at ≡ n = omega arith in
    (omega arith, rw same (scalar_leaf profile (drop at text) l n e))

-- where one was found, no other is there
pub only_found : {E : Type 0} (at : ℕ) (o : Option (Leaf × ℕ)) (l : Leaf) (n : ℕ) → o ≡ Some (l, n) → (k : Leaf) (m : ℕ)
    → o ≡ Some (k, m) → ◌≡◌ {A = Result (Leaf × ℕ) E} (Ok (l, at + n)) (Ok (k, at + m))
only_found at o l n e k m h =
    let f : ◌≡◌ {A = Leaf × ℕ} (l, n) (k, m) = some_injective (sym e ∙ h) in
    ap (λ (p : Leaf × ℕ). Ok (p.0, at + p.1)) f

-- where none was found, none is there
pub only_none : {R : Type 0} (o : Option (Leaf × ℕ)) (k : Leaf) (m : ℕ) → o ≡ None → o ≡ Some (k, m) → R
only_none o k m e h = absurd (let f : ◌≡◌ {A = Option (Leaf × ℕ)} None (Some (k, m)) = sym e ∙ h in cc)
