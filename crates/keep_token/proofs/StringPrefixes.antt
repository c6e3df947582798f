-- What each kind of string begins with: one quotation mark and not three, or three.
--
-- Theorems: `basic_not_three`: a basic string that no quotation mark follows does not begin with three;
-- `ml_basic_three`: one over many lines does; and the same two of literal strings.
use Rattle.std.proofs.Common.{◌≡◌, ℕ, true, false, ◌==◌, List, [], ◌∷◌, ◌++◌, slice_index, refl, sym, ap, ◌∙◌, inl, inr}
use Rattle.std.proofs.Common.{append_assoc, eq-eqb}
use Rattle.std.proofs.lemmas.Bool.{cases_Bool}
use Rattle.keep_types.specs.declared.leaf.Profile.{Profile}
use Rattle.keep_token.specs.Strings.{Piece, piece_text, text_of, IsBasicPiece, IsLiteralPiece, Basic, Literal, MlBasic}
use Rattle.keep_token.specs.Strings.{MlLiteral}
use Rattle.keep_token.specs.Pieces.{first}
use Rattle.keep_token.specs.Scanning.{are_three}
use Rattle.keep_token.proofs.StringOneLine.{one_line}
use Rattle.keep_token.proofs.StringPieces.{basic_not_mark, literal_not_mark}

-- ---- the first byte

pub basic_first : (profile : Profile) (t rest : List ℕ) → Basic profile t → first (t ++ rest) ≡ 0x22
basic_first profile t rest (ps, h) = rw h.spelled refl

pub literal_first : (t rest : List ℕ) → Literal t → first (t ++ rest) ≡ 0x27
literal_first t rest (ps, h) = rw h.spelled refl

pub ml_basic_first : (profile : Profile) (t rest : List ℕ) → MlBasic profile t → first (t ++ rest) ≡ 0x22
ml_basic_first profile t rest (ps, h) = rw h.spelled refl

pub ml_literal_first : (t rest : List ℕ) → MlLiteral t → first (t ++ rest) ≡ 0x27
ml_literal_first t rest (ps, h) = rw h.spelled refl

-- ---- three marks

pub ml_basic_three : (profile : Profile) (t rest : List ℕ) → MlBasic profile t → are_three 0x22 (t ++ rest) ≡ true
ml_basic_three profile t rest (ps, h) = rw h.spelled refl

pub ml_literal_three : (t rest : List ℕ) → MlLiteral t → are_three 0x27 (t ++ rest) ≡ true
ml_literal_three t rest (ps, h) = rw h.spelled refl

-- other marks
pub three_not : (mark other : ℕ) (text : List ℕ) → first text ≡ other → (other == mark) ≡ false
    → are_three mark text ≡ false
three_not mark other text e differs = rw (e, differs) refl

pub basic_no_apostrophes : (profile : Profile) (t rest : List ℕ) → Basic profile t → are_three 0x27 (t ++ rest) ≡ false
basic_no_apostrophes profile t rest h = three_not 0x27 0x22 (t ++ rest) (basic_first profile t rest h) refl

pub literal_no_quotes : (t rest : List ℕ) → Literal t → are_three 0x22 (t ++ rest) ≡ false
literal_no_quotes t rest h = three_not 0x22 0x27 (t ++ rest) (literal_first t rest h) refl

pub ml_literal_no_quotes : (t rest : List ℕ) → MlLiteral t → are_three 0x22 (t ++ rest) ≡ false
ml_literal_no_quotes t rest h = three_not 0x22 0x27 (t ++ rest) (ml_literal_first t rest h) refl

-- a mark and then another byte
two_not : (mark : ℕ) (text : List ℕ) → (first text == mark) ≡ false → are_three mark (mark ∷ text) ≡ false
two_not mark [] e = three mark (mark ∷ []) e
  where
    three : (mark : ℕ) (text : List ℕ) → (slice_index text 1 == mark) ≡ false → are_three mark text ≡ false
    three mark text e = elim (cases_Bool (first text == mark)) [ inl f ↦ rw (f, e) refl | inr f ↦ rw f refl ]
two_not mark (c ∷ cs) e = elim (cases_Bool (mark == mark)) [ inl f ↦ rw (f, e) refl | inr f ↦ rw f refl ]

-- a string on one line with something in it
not_three : (P : Piece → Type 0) (mark : ℕ)
    → ((p : Piece) (more : List ℕ) → P p → (first (piece_text p ++ more) == mark) ≡ false)
    → (p : Piece) (ps : List Piece) (rest : List ℕ) → P p → are_three mark (one_line mark (p ∷ ps) ++ rest) ≡ false
not_three P mark not_mark p ps rest h =
    let after = text_of ps ++ (mark ∷ rest) in
    let split : (text_of (p ∷ ps) ++ (mark ∷ [])) ++ rest ≡ piece_text p ++ after =
    append_assoc (text_of (p ∷ ps)) (mark ∷ []) rest ∙ append_assoc (piece_text p) (text_of ps) (mark ∷ rest) in
    ap (λ t. are_three mark (mark ∷ t)) split ∙ two_not mark (piece_text p ++ after) (not_mark p after h)

-- the empty string, and what follows it
pub empty_three : (mark : ℕ) (rest : List ℕ) → are_three mark (mark ∷ mark ∷ rest) ≡ (first rest == mark)
empty_three mark [] =
    elim (cases_Bool (mark == mark)) [
      | inl f ↦ rw f refl
      | inr f ↦
          absurd (let k = eq-eqb mark mark refl in let g = sym k ∙ f in cc)
    ]
empty_three mark (c ∷ cs) =
    elim (cases_Bool (mark == mark)) [
      | inl f ↦ rw f refl
      | inr f ↦
          absurd (let k = eq-eqb mark mark refl in let g = sym k ∙ f in cc)
    ]

-- where no mark follows, a string on one line does not begin with three
pub basic_not_three : (profile : Profile) (t rest : List ℕ) → Basic profile t → (first rest == 0x22) ≡ false
    → are_three 0x22 (t ++ rest) ≡ false
basic_not_three profile t rest ([], h) stop =
    ap (λ s. are_three 0x22 (s ++ rest)) h.spelled ∙ empty_three 0x22 rest ∙ stop
basic_not_three profile t rest (p ∷ ps, h) stop =
    ap (λ s. are_three 0x22 (s ++ rest)) h.spelled
    ∙ not_three (IsBasicPiece profile) 0x22 (basic_not_mark profile) p ps rest h.each.0

pub literal_not_three : (t rest : List ℕ) → Literal t → (first rest == 0x27) ≡ false
    → are_three 0x27 (t ++ rest) ≡ false
literal_not_three t rest ([], h) stop = ap (λ s. are_three 0x27 (s ++ rest)) h.spelled ∙ empty_three 0x27 rest ∙ stop
literal_not_three t rest (p ∷ ps, h) stop =
    ap (λ s. are_three 0x27 (s ++ rest)) h.spelled ∙ not_three IsLiteralPiece 0x27 literal_not_mark p ps rest h.each.0
