-- What is found in the place of a scalar is the leaf there, and a scalar is found again before what may follow it.
--
-- A scalar is a word or one of four kinds of strings, and its first bytes decide which: three marks, one mark, or none.
-- So each law is a split into these five cases, with the law of that kind from another file. In the first direction
-- (`scalar_leaf`) the tests of `scalar_at` are gone through in their order. In the other (`scalar_at_prefix`) the
-- text's own first bytes say which test holds. The hard case is a string over many lines, where the leaf is the longest
-- of several: `scalar_one` has this from the definition of the leaf, and `scalar_again` from the byte that follows.
--
-- Theorems: `scalar_leaf` and `scalar_one`: what is found is the leaf, and the leaf is found; `scalar_again`: a scalar
-- is found again before what may follow it.
use Rattle.std.proofs.Common.{◌≡◌, ℕ, ◌+◌, ◌<◌, ◌≤◌, true, false, ◌&&◌, ◌==◌, List, [], ◌∷◌, ◌++◌, length, get_or, take}
use Rattle.std.proofs.Common.{drop, Option, Some, None, refl, sym, ap, ◌∙◌, subst, inl, inr, arith, eqb-true, take_at}
use Rattle.std.proofs.lemmas.Bool.{and_parts, cases_lt}
use Rattle.std.proofs.lemmas.Bool.Decides.{nat_tests}
use Rattle.std.proofs.lemmas.List.{length-take, length-drop, get_or_past, append-nil}
use Rattle.std.proofs.lemmas.List.Sums.{prefix_len-le-length}
use Rattle.std.specs.List.{prefix_len}
use Rattle.std.specs.Char.{is_ascii_digit}
use Rattle.keep_types.specs.declared.leaf.Profile.{Profile}
use Rattle.keep_types.specs.declared.leaf.Leaf.{Leaf}
use Rattle.keep_types.specs.declared.leaf.Leaf.TheVariants as leaf
use Rattle.keep_token.specs.Abnf.{is_word}
use Rattle.keep_token.specs.Strings.{Basic, Literal, MlBasic, MlLiteral}
use Rattle.keep_token.specs.Leaves.{IsLeaf, ScalarLeaf, is_scalar_leaf, is_word_leaf, is_one_line, is_many_lines}
use Rattle.keep_token.specs.Leaves.{opens_many_lines, word_len, has_date_shape}
use Rattle.keep_token.specs.Words.{word_leaf}
use Rattle.keep_token.specs.Pieces.{first, basic_at, literal_at, ml_basic_at, ml_literal_at}
use Rattle.keep_token.specs.Scanning.{scalar_at, with_len, are_three, may_follow_scalar}
use Rattle.keep_token.proofs.GapLaws.{tested}
use Rattle.keep_token.proofs.Ends.{some_injective}
use Rattle.keep_token.proofs.KeyLaws.{with_kind_is, cut}
use Rattle.keep_token.proofs.StringKinds.{basic_found, basic_again, literal_found, literal_again, ml_basic_found}
use Rattle.keep_token.proofs.StringKinds.{ml_basic_again, ml_basic_longest, ml_basic_prefix, ml_literal_found}
use Rattle.keep_token.proofs.StringKinds.{ml_literal_again, ml_literal_longest, ml_literal_prefix}
use Rattle.keep_token.proofs.StringPrefixes.{basic_first, literal_first, ml_basic_first, ml_literal_first}
use Rattle.keep_token.proofs.StringPrefixes.{ml_basic_three, ml_literal_three, basic_no_apostrophes, literal_no_quotes}
use Rattle.keep_token.proofs.StringPrefixes.{ml_literal_no_quotes, basic_not_three, literal_not_three}
use Rattle.keep_token.proofs.WordLaws.{word_leaf_found, word_leaf_again, word_len_again, word_first}

-- ---- three marks

three_taken : (mark : ℕ) (text : List ℕ) → (0 == mark) ≡ false → are_three mark text ≡ true
    → take 3 text ≡ mark ∷ mark ∷ mark ∷ []
three_taken mark [] other h = absurd cc
three_taken mark (a ∷ []) other h = absurd (let k = (and_parts (a == mark && 0 == mark) (0 == mark) h).1 in cc)
three_taken mark (a ∷ b ∷ []) other h = absurd (let k = (and_parts (a == mark && b == mark) (0 == mark) h).1 in cc)
three_taken mark (a ∷ b ∷ c ∷ more) other h =
    let (two, third) = and_parts (a == mark && b == mark) (c == mark) h in
    let (one, second) = and_parts (a == mark) (b == mark) two in
    rw (eqb-true a mark one, eqb-true b mark second, eqb-true c mark third) refl

three_from : (mark : ℕ) (text : List ℕ) → (mark == mark) ≡ true → take 3 text ≡ mark ∷ mark ∷ mark ∷ []
    → are_three mark text ≡ true
three_from mark [] same e = absurd cc
three_from mark (a ∷ []) same e = absurd (let k : 1 ≡ 3 = ap length e in omega arith)
three_from mark (a ∷ b ∷ []) same e = absurd (let k : 2 ≡ 3 = ap length e in omega arith)
three_from mark (a ∷ b ∷ c ∷ more) same e =
    let one : a ≡ mark = ap (λ (x : List ℕ). get_or x 0 0) e in
    let two : b ≡ mark = ap (λ (x : List ℕ). get_or x 1 0) e in
    let three : c ≡ mark = ap (λ (x : List ℕ). get_or x 2 0) e in
    rw (one, two, three, same) refl

-- where no three marks are, no string over many lines is opened
closed : (text : List ℕ) → are_three 0x22 text ≡ false → are_three 0x27 text ≡ false → opens_many_lines text → ⊥
closed text e f (inl h) = let k = three_from 0x22 text refl h in cc
closed text e f (inr h) = let k = three_from 0x27 text refl h in cc

no_quotes : (text : List ℕ) → (opens_many_lines text → ⊥) → are_three 0x22 text ≡ false
no_quotes text h = elim (tested (are_three 0x22 text)) [
  | inl e ↦ absurd (h (inl (three_taken 0x22 text refl e)))
  | inr e ↦ e
]

no_apostrophes : (text : List ℕ) → (opens_many_lines text → ⊥) → are_three 0x27 text ≡ false
no_apostrophes text h = elim (tested (are_three 0x27 text)) [
  | inl e ↦ absurd (h (inr (three_taken 0x27 text refl e)))
  | inr e ↦ e
]

-- another first byte than the mark
other_first : (mark : ℕ) (text : List ℕ) → (first text == mark) ≡ false → are_three mark text ≡ false
other_first mark text e = rw e refl

-- ---- the five ways to be found

ml_basic_scalar : (profile : Profile) (text : List ℕ) (n : ℕ) → are_three 0x22 text ≡ true
    → ml_basic_at profile text ≡ Some n → scalar_at profile text ≡ Some (leaf.MlBasic, n)
unfolding scalar_at
ml_basic_scalar profile text n e found = rw (e, found) refl

ml_literal_scalar : (profile : Profile) (text : List ℕ) (n : ℕ) → are_three 0x22 text ≡ false
    → are_three 0x27 text ≡ true → ml_literal_at text ≡ Some n → scalar_at profile text ≡ Some (leaf.MlLiteral, n)
unfolding scalar_at
ml_literal_scalar profile text n e f found = rw (e, f, found) refl

basic_scalar : (profile : Profile) (text : List ℕ) (n : ℕ) → are_three 0x22 text ≡ false → are_three 0x27 text ≡ false
    → (first text == 0x22) ≡ true → basic_at profile text ≡ Some n → scalar_at profile text ≡ Some (leaf.Basic, n)
unfolding scalar_at
basic_scalar profile text n e f g found = rw (e, f, g, found) refl

literal_scalar : (profile : Profile) (text : List ℕ) (n : ℕ) → are_three 0x22 text ≡ false → are_three 0x27 text ≡ false
    → (first text == 0x22) ≡ false → (first text == 0x27) ≡ true → literal_at text ≡ Some n
    → scalar_at profile text ≡ Some (leaf.Literal, n)
unfolding scalar_at
literal_scalar profile text n e f g k found = rw (e, f, g, k, found) refl

word_scalar : (profile : Profile) (text : List ℕ) (l : Leaf) → (first text == 0x22) ≡ false
    → (first text == 0x27) ≡ false → word_leaf profile (take (word_len text) text) ≡ Some l
    → scalar_at profile text ≡ Some (l, word_len text)
unfolding scalar_at
word_scalar profile text l g k found = rw (other_first 0x22 text g, other_first 0x27 text k, g, k, found) refl

-- ---- what is found

ml_basic_leaf : (profile : Profile) (text : List ℕ) (n : ℕ) → are_three 0x22 text ≡ true
    → ml_basic_at profile text ≡ Some n → ScalarLeaf profile text leaf.MlBasic n
ml_basic_leaf profile text n e found =
    let (some, within, belongs) = ml_basic_found profile text n e found in
    record {
      kind = refl;
      within = within;
      belongs = belongs;
      word = λ h. absurd cc;
      one_line = λ h o. cc;
      longest = λ h m le b. ml_basic_longest profile text n found m le b;
    }

ml_literal_leaf : (profile : Profile) (text : List ℕ) (n : ℕ) → are_three 0x27 text ≡ true → ml_literal_at text ≡ Some n
    → ScalarLeaf profile text leaf.MlLiteral n
ml_literal_leaf profile text n e found =
    let (some, within, belongs) = ml_literal_found text n e found in
    record {
      kind = refl;
      within = within;
      belongs = belongs;
      word = λ h. absurd cc;
      one_line = λ h o. cc;
      longest = λ h m le b. ml_literal_longest text n found m le b;
    }

basic_leaf : (profile : Profile) (text : List ℕ) (n : ℕ) → are_three 0x22 text ≡ false → are_three 0x27 text ≡ false
    → (first text == 0x22) ≡ true → basic_at profile text ≡ Some n → ScalarLeaf profile text leaf.Basic n
basic_leaf profile text n e f g found =
    let (some, within, belongs) = basic_found profile text n g found in
    record {
      kind = refl;
      within = within;
      belongs = belongs;
      word = λ h. absurd cc;
      one_line = λ h o. closed text e f o;
      longest = λ h m le b. absurd cc;
    }

literal_leaf : (profile : Profile) (text : List ℕ) (n : ℕ) → are_three 0x22 text ≡ false → are_three 0x27 text ≡ false
    → (first text == 0x27) ≡ true → literal_at text ≡ Some n → ScalarLeaf profile text leaf.Literal n
literal_leaf profile text n e f g found =
    let (some, within, belongs) = literal_found text n g found in
    record {
      kind = refl;
      within = within;
      belongs = belongs;
      word = λ h. absurd cc;
      one_line = λ h o. closed text e f o;
      longest = λ h m le b. absurd cc;
    }

-- a word is of one line only if it is a string
word_kinds : (l : Leaf) → is_word_leaf l ≡ true
    → (is_scalar_leaf l ≡ true) × (is_one_line l ≡ false) × (is_many_lines l ≡ false)
word_kinds leaf.Integer h = (refl, refl, refl)
word_kinds leaf.Float h = (refl, refl, refl)
word_kinds leaf.Boolean h = (refl, refl, refl)
word_kinds leaf.OffsetDateTime h = (refl, refl, refl)
word_kinds leaf.LocalDateTime h = (refl, refl, refl)
word_kinds leaf.LocalDate h = (refl, refl, refl)
word_kinds leaf.LocalTime h = (refl, refl, refl)
word_kinds _ h = absurd cc

space_nested : (text : List ℕ) (i : ℕ) → (get_or text i 0 == 0x20) ≡ true → i < length text
space_nested text i e =
    elim (cases_lt i (length text)) [
      | inl lt ↦ lt
      | inr ge ↦ absurd (let k : (0 == 0x20) ≡ true = rw (get_or_past text i 0 ge) at e in cc)
    ]

-- a word lies within the text
word_len-le : (text : List ℕ) → word_len text ≤ length text
word_len-le text =
    let run = prefix_len is_word text in
    let more : prefix_len is_word (drop (run + 1) text) ≤ length (drop (run + 1) text) =
    prefix_len-le-length is_word (drop (run + 1) text) in
    let le : run ≤ length text = prefix_len-le-length is_word text in
    elim (tested (has_date_shape (take run text)
    && (get_or text run 0 == 0x20 && is_ascii_digit (get_or text (run + 1) 0)))) [
      | inl e ↦
          let space =
          (and_parts (get_or text run 0 == 0x20) (is_ascii_digit (get_or text (run + 1) 0))
          (and_parts (has_date_shape (take run text)) _ e).1).0 in
          let nested : run < length text = space_nested text run space in
          rw e (omega (arith, length-drop (run + 1) text))
      | inr e ↦ rw e le
    ]

word_scalar_leaf : (profile : Profile) (text : List ℕ) (l : Leaf)
    → word_leaf profile (take (word_len text) text) ≡ Some l → ScalarLeaf profile text l (word_len text)
word_scalar_leaf profile text l found =
    let (kind, belongs) = word_leaf_found profile (take (word_len text) text) l found in
    let (scalar, one, many) = word_kinds l kind in
    record {
      kind = scalar;
      within = word_len-le text;
      belongs = belongs;
      word = λ h. refl;
      one_line = λ h o. let k : true ≡ false = sym h ∙ one in cc;
      longest = λ h m le b. absurd (let k : true ≡ false = sym h ∙ many in cc);
    }

with_len_is : (o : Option Leaf) (m : ℕ) (l : Leaf) (n : ℕ) → with_len o m ≡ Some (l, n) → (o ≡ Some l) × (n ≡ m)
with_len_is None m l n e = absurd (let f : ◌≡◌ {A = Option (Leaf × ℕ)} None (Some (l, n)) = e in cc)
with_len_is (Some k) m l n e =
    let same : ◌≡◌ {A = Leaf × ℕ} (k, m) (l, n) = some_injective e in
    (ap (λ (p : Leaf × ℕ). Some p.0) same, sym (ap (λ (p : Leaf × ℕ). p.1) same))

pub scalar_leaf : (profile : Profile) (text : List ℕ) (l : Leaf) (n : ℕ) → scalar_at profile text ≡ Some (l, n)
    → ScalarLeaf profile text l n
unfolding scalar_at
scalar_leaf profile text l n at =
    elim (tested (are_three 0x22 text)) [
      | inl e ↦
          let (kind, found) = with_kind_is leaf.MlBasic (ml_basic_at profile text) l n (rw e at at) in
          rw kind (ml_basic_leaf profile text n e found)
      | inr e ↦ elim (tested (are_three 0x27 text)) [
        | inl f ↦
            let (kind, found) = with_kind_is leaf.MlLiteral (ml_literal_at text) l n (rw (e, f) at at) in
            rw kind (ml_literal_leaf profile text n f found)
        | inr f ↦ elim (tested (first text == 0x22)) [
          | inl g ↦
              let (kind, found) = with_kind_is leaf.Basic (basic_at profile text) l n (rw (e, f, g) at at) in
              rw kind (basic_leaf profile text n e f g found)
          | inr g ↦ elim (tested (first text == 0x27)) [
            | inl k ↦
                let (kind, found) = with_kind_is leaf.Literal (literal_at text) l n (rw (e, f, g, k) at at) in
                rw kind (literal_leaf profile text n e f k found)
            | inr k ↦
                let (found, len) =
                with_len_is (word_leaf profile (take (word_len text) text)) (word_len text) l n
                (rw (e, f, g, k) at at) in
                rw len (word_scalar_leaf profile text l found)
          ]
        ]
      ]
    ]

-- ---- the leaf in the place of a scalar is found

first-append : (t rest : List ℕ) → 0 < length t → first (t ++ rest) ≡ first t
first-append [] rest some = absurd (omega arith)
first-append (c ∷ cs) rest some = refl

word_at_prefix : (profile : Profile) (l : Leaf) (t rest : List ℕ) → is_word_leaf l ≡ true → IsLeaf profile l t
    → word_len (t ++ rest) ≡ length t → scalar_at profile (t ++ rest) ≡ Some (l, length t)
word_at_prefix profile l t rest k h len =
    let (some, quote, apostrophe) = word_first profile l t h k in
    let same : first (t ++ rest) ≡ first t = first-append t rest some in
    let whole : take (word_len (t ++ rest)) (t ++ rest) ≡ t = rw len (take_at t rest (length t) refl) in
    word_scalar profile (t ++ rest) l (rw same quote) (rw same apostrophe) (rw whole (word_leaf_again profile l t k h))
    ∙ ap (λ (n : ℕ). Some (l, n)) len

is_same : (text : List ℕ) (c : ℕ) → first text ≡ c → (c == c) ≡ true → (first text == c) ≡ true
is_same text c e same = rw e same

is_other : (text : List ℕ) (c d : ℕ) → first text ≡ c → (c == d) ≡ false → (first text == d) ≡ false
is_other text c d e other = rw e other

basic_at_prefix : (profile : Profile) (t rest : List ℕ) → Basic profile t → are_three 0x22 (t ++ rest) ≡ false
    → scalar_at profile (t ++ rest) ≡ Some (leaf.Basic, length t)
basic_at_prefix profile t rest h quotes =
    basic_scalar profile (t ++ rest) (length t) quotes (basic_no_apostrophes profile t rest h)
    (is_same (t ++ rest) 0x22 (basic_first profile t rest h) refl) (basic_again profile t rest h)

literal_at_prefix : (profile : Profile) (t rest : List ℕ) → Literal t → are_three 0x27 (t ++ rest) ≡ false
    → scalar_at profile (t ++ rest) ≡ Some (leaf.Literal, length t)
literal_at_prefix profile t rest h apostrophes =
    let begins = literal_first t rest h in
    literal_scalar profile (t ++ rest) (length t) (literal_no_quotes t rest h) apostrophes
    (is_other (t ++ rest) 0x27 0x22 begins refl) (is_same (t ++ rest) 0x27 begins refl) (literal_again t rest h)

-- what follows a string over many lines does not continue with it where the leaf is the longest
ml_basic_at_prefix : (profile : Profile) (t rest : List ℕ) → MlBasic profile t
    → ScalarLeaf profile (t ++ rest) leaf.MlBasic (length t)
    → scalar_at profile (t ++ rest) ≡ Some (leaf.MlBasic, length t)
ml_basic_at_prefix profile t rest h leaf_is =
    let (k, found, le) = ml_basic_prefix profile t rest h in
    let three = ml_basic_three profile t rest h in
    let (some, within, belongs) = ml_basic_found profile (t ++ rest) k three found in
    let ge : k ≤ length t = leaf_is.longest refl k within belongs in
    let same : k ≡ length t = omega arith in
    ml_basic_scalar profile (t ++ rest) k three found ∙ ap (λ (n : ℕ). Some (leaf.MlBasic, n)) same

ml_literal_at_prefix : (profile : Profile) (t rest : List ℕ) → MlLiteral t
    → ScalarLeaf profile (t ++ rest) leaf.MlLiteral (length t)
    → scalar_at profile (t ++ rest) ≡ Some (leaf.MlLiteral, length t)
ml_literal_at_prefix profile t rest h leaf_is =
    let (k, found, le) = ml_literal_prefix t rest h in
    let three = ml_literal_three t rest h in
    let (some, within, belongs) = ml_literal_found (t ++ rest) k three found in
    let ge : k ≤ length t = leaf_is.longest refl k within belongs in
    let same : k ≡ length t = omega arith in
    ml_literal_scalar profile (t ++ rest) k (ml_literal_no_quotes t rest h) three found
    ∙ ap (λ (n : ℕ). Some (leaf.MlLiteral, n)) same

-- a scalar is a word or one of the four strings
pub data ScalarKinds (l : Leaf) : Type 0 where
  a_word : is_word_leaf l ≡ true → ScalarKinds l
  a_basic : l ≡ leaf.Basic → ScalarKinds l
  a_literal : l ≡ leaf.Literal → ScalarKinds l
  a_ml_basic : l ≡ leaf.MlBasic → ScalarKinds l
  a_ml_literal : l ≡ leaf.MlLiteral → ScalarKinds l

pub scalar_kind : (l : Leaf) → is_scalar_leaf l ≡ true → ScalarKinds l
scalar_kind leaf.Basic h = a_basic refl
scalar_kind leaf.Literal h = a_literal refl
scalar_kind leaf.MlBasic h = a_ml_basic refl
scalar_kind leaf.MlLiteral h = a_ml_literal refl
scalar_kind leaf.Integer h = a_word refl
scalar_kind leaf.Float h = a_word refl
scalar_kind leaf.Boolean h = a_word refl
scalar_kind leaf.OffsetDateTime h = a_word refl
scalar_kind leaf.LocalDateTime h = a_word refl
scalar_kind leaf.LocalDate h = a_word refl
scalar_kind leaf.LocalTime h = a_word refl
scalar_kind _ h = absurd cc

prefix_is_leaf : (profile : Profile) (l : Leaf) (t rest : List ℕ) → ScalarLeaf profile (t ++ rest) l (length t)
    → IsLeaf profile l t
prefix_is_leaf profile l t rest h =
    subst (λ (u : List ℕ). IsLeaf profile l u) (take_at t rest (length t) refl) h.belongs

scalar_at_prefix : (profile : Profile) (l : Leaf) (t rest : List ℕ) → ScalarLeaf profile (t ++ rest) l (length t)
    → scalar_at profile (t ++ rest) ≡ Some (l, length t)
scalar_at_prefix profile l t rest h =
    let belongs = prefix_is_leaf profile l t rest h in
    elim (scalar_kind l h.kind) [
      | a_word k ↦ word_at_prefix profile l t rest k belongs (sym (h.word k))
      | a_basic k ↦
          rw k (basic_at_prefix profile t rest (rw k at belongs) (no_quotes (t ++ rest) (h.one_line (rw k refl))))
      | a_literal k ↦
          rw k (literal_at_prefix profile t rest (rw k at belongs)
          (no_apostrophes (t ++ rest) (h.one_line (rw k refl))))
      | a_ml_basic k ↦ rw k (ml_basic_at_prefix profile t rest (rw k at belongs) (rw k at h))
      | a_ml_literal k ↦ rw k (ml_literal_at_prefix profile t rest (rw k at belongs) (rw k at h))
    ]

pub scalar_one : (profile : Profile) (text : List ℕ) (l : Leaf) (n : ℕ) → ScalarLeaf profile text l n
    → scalar_at profile text ≡ Some (l, n)
scalar_one profile text l n h =
    let (whole, len) = cut text n h.within in
    let moved : ScalarLeaf profile (take n text ++ drop n text) l (length (take n text)) = rw (whole, len) h in
    let found = scalar_at_prefix profile l (take n text) (drop n text) moved in
    rw (whole, len) at found

-- ---- a scalar is found again

-- what may follow a scalar is no quotation mark and no apostrophe
followed : (rest : List ℕ) → may_follow_scalar rest ≡ true
    → ((first rest == 0x22) ≡ false) × ((first rest == 0x27) ≡ false)
followed rest h = (grind (arith, nat_tests), grind (arith, nat_tests))

pub scalar_again : (profile : Profile) (l : Leaf) (t rest : List ℕ) → is_scalar_leaf l ≡ true → IsLeaf profile l t
    → may_follow_scalar rest ≡ true → scalar_at profile (t ++ rest) ≡ Some (l, length t)
scalar_again profile l t rest k h stop =
    let (quote, apostrophe) = followed rest stop in
    elim (scalar_kind l k) [
      | a_word e ↦ word_at_prefix profile l t rest e h (word_len_again profile l t rest e h stop)
      | a_basic e ↦ rw e (basic_at_prefix profile t rest (rw e at h) (basic_not_three profile t rest (rw e at h) quote))
      | a_literal e ↦
          rw e (literal_at_prefix profile t rest (rw e at h) (literal_not_three t rest (rw e at h) apostrophe))
      | a_ml_basic e ↦
          rw e (ml_basic_scalar profile (t ++ rest) (length t) (ml_basic_three profile t rest (rw e at h))
          (ml_basic_again profile t rest (rw e at h) quote))
      | a_ml_literal e ↦
          rw e (ml_literal_scalar profile (t ++ rest) (length t) (ml_literal_no_quotes t rest (rw e at h))
          (ml_literal_three t rest (rw e at h)) (ml_literal_again t rest (rw e at h) apostrophe))
    ]

some_of_first : (t : List ℕ) (c : ℕ) → 0 < c → first t ≡ c → 0 < length t
some_of_first [] c some e = absurd (omega arith)
some_of_first (x ∷ xs) c some e = omega arith

-- a scalar is not empty
scalar_some : (profile : Profile) (l : Leaf) (t : List ℕ) → is_scalar_leaf l ≡ true → IsLeaf profile l t → 0 < length t
scalar_some profile l t k h =
    elim (scalar_kind l k) [
      | a_word e ↦ (word_first profile l t h e).0
      | a_basic e ↦ some_of_first t 0x22 (omega arith) (rw append-nil at (basic_first profile t [] (rw e at h)))
      | a_literal e ↦ some_of_first t 0x27 (omega arith) (rw append-nil at (literal_first t [] (rw e at h)))
      | a_ml_basic e ↦ some_of_first t 0x22 (omega arith) (rw append-nil at (ml_basic_first profile t [] (rw e at h)))
      | a_ml_literal e ↦ some_of_first t 0x27 (omega arith) (rw append-nil at (ml_literal_first t [] (rw e at h)))
    ]

pub scalar_found : (profile : Profile) (text : List ℕ) (l : Leaf) (n : ℕ) → scalar_at profile text ≡ Some (l, n)
    → (is_scalar_leaf l ≡ true) × (0 < n) × (n ≤ length text) × IsLeaf profile l (take n text)
scalar_found profile text l n at =
    let h = scalar_leaf profile text l n at in
    let some = scalar_some profile l (take n text) h.kind h.belongs in
    (h.kind, omega (arith, length-take n text), h.within, h.belongs)

-- no text is of two kinds of scalars
pub scalars_disjoint : (profile : Profile) (text : List ℕ) (one other : Leaf) → is_scalar_leaf one ≡ true
    → is_scalar_leaf other ≡ true → IsLeaf profile one text → IsLeaf profile other text → one ≡ other
scalars_disjoint profile text one other k m h g =
    let e = scalar_again profile one text [] k h refl in
    let f = scalar_again profile other text [] m g refl in
    let same : ◌≡◌ {A = Leaf × ℕ} (one, length text) (other, length text) = some_injective (sym e ∙ f) in
    ap (λ (p : Leaf × ℕ). p.0) same
