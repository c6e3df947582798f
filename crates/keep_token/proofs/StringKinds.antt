-- The string that is found at a text is the string of the definitions: sound, found again, the longest, with one list
-- of pieces.
--
-- For each kind of string the same laws are put together from those of pieces: what is found is a string of the
-- definitions (`basic_found`), a string is found again (`basic_again`), with the same pieces (`basic_pieces_one`), and
-- none that begins there is longer (`basic_longest`). Soundness needs what the pieces were found to be; that no string
-- is longer follows from finding each again (`longest_from`). Over many lines a string is found again only where no
-- mark follows it; elsewhere it or a longer one is found (`ml_basic_prefix`), which is enough for the longest.
--
-- Theorems: `basic_found`, `basic_again`, `basic_longest`, `basic_pieces_one`, and the same four of the other three
-- kinds.
use Rattle.std.proofs.Common.{◌≡◌, ℕ, ◌<◌, ◌≤◌, true, false, ◌&&◌, ◌==◌, List, [], ◌∷◌, ◌++◌, length, take, drop}
use Rattle.std.proofs.Common.{Option, Some, None, refl, sym, ap, ◌∙◌, subst, arith, take_at, length-append, length-take}
use Rattle.std.proofs.Common.{take-append-drop, eqb-true}
use Rattle.std.proofs.lemmas.Bool.{and_parts}
use Rattle.keep_types.specs.declared.leaf.Profile.{Profile}
use Rattle.keep_token.specs.Strings.{Piece, Plain, Letter, Number, Break, LineEnd, basic_text, literal_text}
use Rattle.keep_token.specs.Strings.{ml_basic_text, ml_literal_text, Each, takes_all, IsBasicPiece, IsLiteralPiece}
use Rattle.keep_token.specs.Strings.{IsMlBasicPiece, IsMlLiteralPiece, IsBasicOf, IsLiteralOf, IsMlBasicOf}
use Rattle.keep_token.specs.Strings.{IsMlLiteralOf, Basic, Literal, MlBasic, MlLiteral}
use Rattle.keep_token.specs.Pieces.{first, basic_piece, literal_piece, ml_basic_piece, ml_literal_piece, pieces_of}
use Rattle.keep_token.specs.Pieces.{len_of, basic_at, literal_at, ml_basic_at, ml_literal_at}
use Rattle.keep_token.specs.Scanning.{are_three}
use Rattle.keep_token.proofs.StringOneLine.{prefix_one, again_one}
use Rattle.keep_token.proofs.StringManyLines.{AgainMany, prefix_many, again_many}
use Rattle.keep_token.proofs.StringPieces.{basic_laws, literal_laws, ml_basic_laws, ml_literal_laws, basic_not_mark}
use Rattle.keep_token.proofs.StringPieces.{literal_not_mark, basic_stops, literal_stops, ml_basic_marks}
use Rattle.keep_token.proofs.StringPieces.{ml_literal_marks}

-- ---- of any kind

-- the text begins with the string of these pieces
pub record Prefix (Of : List ℕ → List Piece → Type 0) (spelled : List Piece → List ℕ) (text : List ℕ)
    (ps : List Piece) : Type 0 where
  pub rest : List ℕ
  pub split : text ≡ spelled ps ++ rest
  pub string : Of (spelled ps) ps

-- n bytes of the text are a string
abbrev pub FoundAt : (List ℕ → List Piece → Type 0) → List ℕ → ℕ → Type 0
FoundAt Of text n = (0 < n) × (n ≤ length text) × ((ps : List Piece) × Of (take n text) ps)

pub prefix_taken : (Of : List ℕ → List Piece → Type 0) (spelled : List Piece → List ℕ) (text : List ℕ) (ps : List Piece)
    → Prefix Of spelled text ps → Of (take (length (spelled ps)) text) ps
prefix_taken Of spelled text ps f =
    subst (λ t.
    Of t ps) (sym (ap (take (length (spelled ps))) f.split ∙ take_at (spelled ps) f.rest (length (spelled ps)) refl))
    f.string

len_found : (spelled : List Piece → List ℕ) (o : Option (List Piece)) (n : ℕ) → len_of spelled o ≡ Some n
    → (ps : List Piece) × (o ≡ Some ps) × (length (spelled ps) ≡ n)
len_found spelled None n e = absurd cc
len_found spelled (Some ps) n e = (ps, refl, cc)

at_found : (Of : List ℕ → List Piece → Type 0) (spelled : List Piece → List ℕ) (text : List ℕ) (o : Option (List Piece))
    (n : ℕ) → len_of spelled o ≡ Some n
    → ((ps : List Piece) → 0 < length (spelled ps)) → ((ps : List Piece) → o ≡ Some ps → Prefix Of spelled text ps)
    → FoundAt Of text n
at_found Of spelled text o n e some prefix =
    let l = len_found spelled o n e in
    let f = prefix l.0 l.1 in
    let long = ap length f.split ∙ length-append (spelled l.0) f.rest in
    let least = some l.0 in (
      omega (arith, l.2, least),
      omega (arith, l.2, long),
      (l.0, subst (λ k. Of (take k text) l.0) l.2 (prefix_taken Of spelled text l.0 f)),
    )

-- what is found where a string is is that string, or a longer one
longest_from : (at : List ℕ → Option ℕ) (text : List ℕ) (n m : ℕ) → at text ≡ Some n → m ≤ length text
    → ((rest : List ℕ) → (k : ℕ) × (at (take m text ++ rest) ≡ Some k) × (length (take m text) ≤ k)) → m ≤ n
longest_from at text n m e le again =
    let a = again (drop m text) in
    let found : Some n ≡ Some a.0 = sym e ∙ ap at (sym (take-append-drop m text)) ∙ a.1 in
    let same : n ≡ a.0 = cc in
    omega (arith, same, a.2, length-take m text)

pub three_open : (mark : ℕ) (text : List ℕ) → (0 == mark) ≡ false → are_three mark text ≡ true
    → text ≡ mark ∷ mark ∷ mark ∷ drop 3 text
three_open mark [] not_zero h = absurd (let f = rw not_zero at h in cc)
three_open mark (a ∷ []) not_zero h =
    absurd (let f = and_parts (a == mark && 0 == mark) (0 == mark) h in let g = sym not_zero ∙ f.1 in cc)
three_open mark (a ∷ b ∷ []) not_zero h =
    absurd (let f = and_parts (a == mark && b == mark) (0 == mark) h in let g = sym not_zero ∙ f.1 in cc)
three_open mark (a ∷ b ∷ c ∷ cs) not_zero h =
    let f = and_parts (a == mark && b == mark) (c == mark) h in
    let g = and_parts (a == mark) (b == mark) f.0 in
    rw (eqb-true a mark g.0, eqb-true b mark g.1, eqb-true c mark f.1) refl

-- ---- basic strings

pub basic_pieces_found : (profile : Profile) (text : List ℕ) (ps : List Piece) → (first text == 0x22) ≡ true
    → pieces_of (basic_piece profile) false 0x22 (drop 1 text) ≡ Some ps → Prefix (IsBasicOf profile) basic_text text ps
basic_pieces_found profile text ps opening e =
    let f = prefix_one (IsBasicPiece profile) (basic_piece profile) (basic_laws profile) 0x22 refl text ps opening e in
    record { rest = f.rest; split = f.spelled; string = record { spelled = refl; each = f.each } }

pub basic_found_of : (profile : Profile) (text : List ℕ) (n : ℕ) → (first text == 0x22) ≡ true
    → basic_at profile text ≡ Some n → FoundAt (IsBasicOf profile) text n
basic_found_of profile text n opening e =
    at_found (IsBasicOf profile) basic_text text (pieces_of (basic_piece profile) false 0x22 (drop 1 text)) n e
    (λ ps. omega arith) (λ ps. basic_pieces_found profile text ps opening)

pub basic_found : (profile : Profile) (text : List ℕ) (n : ℕ) → (first text == 0x22) ≡ true
    → basic_at profile text ≡ Some n → (0 < n) × (n ≤ length text) × Basic profile (take n text)
basic_found = basic_found_of

pub basic_pieces_again : (profile : Profile) (t rest : List ℕ) (ps : List Piece) → IsBasicOf profile t ps
    → pieces_of (basic_piece profile) false 0x22 (drop 1 (t ++ rest)) ≡ Some ps
basic_pieces_again profile t rest ps h =
    ap (λ s. pieces_of (basic_piece profile) false 0x22 (drop 1 (s ++ rest))) h.spelled
    ∙ again_one (IsBasicPiece profile) (basic_piece profile) (basic_laws profile) 0x22 (basic_not_mark profile)
    (basic_stops profile) ps rest h.each

pub basic_again : (profile : Profile) (t rest : List ℕ) → Basic profile t
    → basic_at profile (t ++ rest) ≡ Some (length t)
basic_again profile t rest (ps, h) =
    ap (len_of basic_text) (basic_pieces_again profile t rest ps h) ∙ ap (λ s. Some (length s)) (sym h.spelled)

-- a basic string has one list of pieces, so one meaning
pub basic_pieces_one : (profile : Profile) (t : List ℕ) (ps qs : List Piece) → IsBasicOf profile t ps
    → IsBasicOf profile t qs → ps ≡ qs
basic_pieces_one profile t ps qs h k =
    let e : Some ps ≡ Some qs = sym (basic_pieces_again profile t [] ps h) ∙ basic_pieces_again profile t [] qs k in
    cc

pub basic_longest : (profile : Profile) (text : List ℕ) (n : ℕ) → basic_at profile text ≡ Some n → (m : ℕ)
    → m ≤ length text → Basic profile (take m text) → m ≤ n
basic_longest profile text n e m le h =
    longest_from (basic_at profile) text n m e le
    (λ rest. (length (take m text), basic_again profile (take m text) rest h, omega arith))

-- ---- literal strings

pub literal_pieces_found : (text : List ℕ) (ps : List Piece) → (first text == 0x27) ≡ true
    → pieces_of literal_piece false 0x27 (drop 1 text) ≡ Some ps → Prefix IsLiteralOf literal_text text ps
literal_pieces_found text ps opening e =
    let f = prefix_one IsLiteralPiece literal_piece literal_laws 0x27 refl text ps opening e in
    record { rest = f.rest; split = f.spelled; string = record { spelled = refl; each = f.each } }

pub literal_found_of : (text : List ℕ) (n : ℕ) → (first text == 0x27) ≡ true → literal_at text ≡ Some n
    → FoundAt IsLiteralOf text n
literal_found_of text n opening e =
    at_found IsLiteralOf literal_text text (pieces_of literal_piece false 0x27 (drop 1 text)) n e (λ ps. omega arith)
    (λ ps. literal_pieces_found text ps opening)

pub literal_found : (text : List ℕ) (n : ℕ) → (first text == 0x27) ≡ true → literal_at text ≡ Some n
    → (0 < n) × (n ≤ length text) × Literal (take n text)
literal_found = literal_found_of

pub literal_pieces_again : (t rest : List ℕ) (ps : List Piece) → IsLiteralOf t ps
    → pieces_of literal_piece false 0x27 (drop 1 (t ++ rest)) ≡ Some ps
literal_pieces_again t rest ps h =
    ap (λ s. pieces_of literal_piece false 0x27 (drop 1 (s ++ rest))) h.spelled
    ∙ again_one IsLiteralPiece literal_piece literal_laws 0x27 literal_not_mark literal_stops ps rest h.each

pub literal_again : (t rest : List ℕ) → Literal t → literal_at (t ++ rest) ≡ Some (length t)
literal_again t rest (ps, h) =
    ap (len_of literal_text) (literal_pieces_again t rest ps h) ∙ ap (λ s. Some (length s)) (sym h.spelled)

pub literal_pieces_one : (t : List ℕ) (ps qs : List Piece) → IsLiteralOf t ps → IsLiteralOf t qs → ps ≡ qs
literal_pieces_one t ps qs h k =
    let e : Some ps ≡ Some qs = sym (literal_pieces_again t [] ps h) ∙ literal_pieces_again t [] qs k in
    cc

pub literal_longest : (text : List ℕ) (n : ℕ) → literal_at text ≡ Some n → (m : ℕ) → m ≤ length text
    → Literal (take m text) → m ≤ n
literal_longest text n e m le h =
    longest_from literal_at text n m e le
    (λ rest. (length (take m text), literal_again (take m text) rest h, omega arith))

-- ---- basic strings over many lines

pub ml_basic_pieces_found : (profile : Profile) (text : List ℕ) (ps : List Piece) → are_three 0x22 text ≡ true
    → pieces_of (ml_basic_piece profile) true 0x22 (drop 3 text) ≡ Some ps
    → Prefix (IsMlBasicOf profile) ml_basic_text text ps
ml_basic_pieces_found profile text ps opening e =
    let f = prefix_many (IsMlBasicPiece profile) (ml_basic_piece profile) (ml_basic_laws profile) 0x22 refl text
    (drop 3 text) ps (three_open 0x22 text refl opening) e in
    record {
      rest = f.rest;
      split = f.spelled;
      string = record { spelled = refl; each = f.each; no_end = f.no_end; whole = f.whole };
    }

pub ml_basic_found_of : (profile : Profile) (text : List ℕ) (n : ℕ) → are_three 0x22 text ≡ true
    → ml_basic_at profile text ≡ Some n → FoundAt (IsMlBasicOf profile) text n
ml_basic_found_of profile text n opening e =
    at_found (IsMlBasicOf profile) ml_basic_text text (pieces_of (ml_basic_piece profile) true 0x22 (drop 3 text)) n e
    (λ ps. omega arith) (λ ps. ml_basic_pieces_found profile text ps opening)

pub ml_basic_found : (profile : Profile) (text : List ℕ) (n : ℕ) → are_three 0x22 text ≡ true
    → ml_basic_at profile text ≡ Some n → (0 < n) × (n ≤ length text) × MlBasic profile (take n text)
ml_basic_found = ml_basic_found_of

ml_basic_many : (profile : Profile) (t rest : List ℕ) (ps : List Piece) → IsMlBasicOf profile t ps
    → AgainMany (ml_basic_piece profile) 0x22 ps rest
ml_basic_many profile t rest ps h =
    again_many (IsMlBasicPiece profile) (ml_basic_piece profile) (ml_basic_laws profile) 0x22 refl refl refl
    (ml_basic_marks profile) ps rest h.each h.no_end h.whole

ml_basic_pieces : (profile : Profile) (t rest : List ℕ) (ps : List Piece) → (h : IsMlBasicOf profile t ps)
    → pieces_of (ml_basic_piece profile) true 0x22 (drop 3 (t ++ rest)) ≡ Some (ml_basic_many profile t rest ps h).all
ml_basic_pieces profile t rest ps h =
    ap (λ s. pieces_of (ml_basic_piece profile) true 0x22 (drop 3 (s ++ rest))) h.spelled
    ∙ (ml_basic_many profile t rest ps h).found

pub ml_basic_pieces_again : (profile : Profile) (t rest : List ℕ) (ps : List Piece) → IsMlBasicOf profile t ps
    → (first rest == 0x22) ≡ false → pieces_of (ml_basic_piece profile) true 0x22 (drop 3 (t ++ rest)) ≡ Some ps
ml_basic_pieces_again profile t rest ps h stop =
    ml_basic_pieces profile t rest ps h ∙ ap Some ((ml_basic_many profile t rest ps h).same stop)

pub ml_basic_again : (profile : Profile) (t rest : List ℕ) → MlBasic profile t → (first rest == 0x22) ≡ false
    → ml_basic_at profile (t ++ rest) ≡ Some (length t)
ml_basic_again profile t rest (ps, h) stop =
    ap (len_of ml_basic_text) (ml_basic_pieces_again profile t rest ps h stop)
    ∙ ap (λ s. Some (length s)) (sym h.spelled)

pub ml_basic_pieces_one : (profile : Profile) (t : List ℕ) (ps qs : List Piece) → IsMlBasicOf profile t ps
    → IsMlBasicOf profile t qs → ps ≡ qs
ml_basic_pieces_one profile t ps qs h k =
    let e : Some ps ≡ Some qs =
    sym (ml_basic_pieces_again profile t [] ps h refl) ∙ ml_basic_pieces_again profile t [] qs k refl in
    cc

-- where a string over many lines is, it or a longer one is found
pub ml_basic_prefix : (profile : Profile) (t rest : List ℕ) → MlBasic profile t
    → (k : ℕ) × (ml_basic_at profile (t ++ rest) ≡ Some k) × (length t ≤ k)
ml_basic_prefix profile t rest (ps, h) =
    let m = ml_basic_many profile t rest ps h in
    let long = ap length h.spelled in (
      length (ml_basic_text m.all),
      ap (len_of ml_basic_text) (ml_basic_pieces profile t rest ps h),
      omega (arith, m.longer, long),
    )

pub ml_basic_longest : (profile : Profile) (text : List ℕ) (n : ℕ) → ml_basic_at profile text ≡ Some n → (m : ℕ)
    → m ≤ length text → MlBasic profile (take m text) → m ≤ n
ml_basic_longest profile text n e m le h =
    longest_from (ml_basic_at profile) text n m e le (λ rest. ml_basic_prefix profile (take m text) rest h)

-- ---- literal strings over many lines

-- no line-ending backslash is in a literal string
literal_takes_all : (ps : List Piece) → Each IsMlLiteralPiece ps → takes_all ps ≡ true
literal_takes_all [] h = refl
literal_takes_all (p ∷ []) h = refl
literal_takes_all (Plain b ∷ q ∷ ps) h = literal_takes_all (q ∷ ps) h.1
literal_takes_all (Break n ∷ q ∷ ps) h = literal_takes_all (q ∷ ps) h.1
literal_takes_all (Letter l ∷ q ∷ ps) h = absurd h.0
literal_takes_all (Number l ds ∷ q ∷ ps) h = absurd h.0
literal_takes_all (LineEnd a b c ∷ q ∷ ps) h = absurd h.0

pub ml_literal_pieces_found : (text : List ℕ) (ps : List Piece) → are_three 0x27 text ≡ true
    → pieces_of ml_literal_piece true 0x27 (drop 3 text) ≡ Some ps → Prefix IsMlLiteralOf ml_literal_text text ps
ml_literal_pieces_found text ps opening e =
    let f = prefix_many IsMlLiteralPiece ml_literal_piece ml_literal_laws 0x27 refl text (drop 3 text) ps
    (three_open 0x27 text refl opening) e in
    record { rest = f.rest; split = f.spelled; string = record { spelled = refl; each = f.each; no_end = f.no_end } }

pub ml_literal_found_of : (text : List ℕ) (n : ℕ) → are_three 0x27 text ≡ true → ml_literal_at text ≡ Some n
    → FoundAt IsMlLiteralOf text n
ml_literal_found_of text n opening e =
    at_found IsMlLiteralOf ml_literal_text text (pieces_of ml_literal_piece true 0x27 (drop 3 text)) n e
    (λ ps. omega arith) (λ ps. ml_literal_pieces_found text ps opening)

pub ml_literal_found : (text : List ℕ) (n : ℕ) → are_three 0x27 text ≡ true → ml_literal_at text ≡ Some n
    → (0 < n) × (n ≤ length text) × MlLiteral (take n text)
ml_literal_found = ml_literal_found_of

ml_literal_many : (t rest : List ℕ) (ps : List Piece) → IsMlLiteralOf t ps → AgainMany ml_literal_piece 0x27 ps rest
ml_literal_many t rest ps h =
    again_many IsMlLiteralPiece ml_literal_piece ml_literal_laws 0x27 refl refl refl ml_literal_marks ps rest h.each
    h.no_end (literal_takes_all ps h.each)

ml_literal_pieces : (t rest : List ℕ) (ps : List Piece) → (h : IsMlLiteralOf t ps)
    → pieces_of ml_literal_piece true 0x27 (drop 3 (t ++ rest)) ≡ Some (ml_literal_many t rest ps h).all
ml_literal_pieces t rest ps h =
    ap (λ s. pieces_of ml_literal_piece true 0x27 (drop 3 (s ++ rest))) h.spelled ∙ (ml_literal_many t rest ps h).found

pub ml_literal_pieces_again : (t rest : List ℕ) (ps : List Piece) → IsMlLiteralOf t ps → (first rest == 0x27) ≡ false
    → pieces_of ml_literal_piece true 0x27 (drop 3 (t ++ rest)) ≡ Some ps
ml_literal_pieces_again t rest ps h stop =
    ml_literal_pieces t rest ps h ∙ ap Some ((ml_literal_many t rest ps h).same stop)

pub ml_literal_again : (t rest : List ℕ) → MlLiteral t → (first rest == 0x27) ≡ false
    → ml_literal_at (t ++ rest) ≡ Some (length t)
ml_literal_again t rest (ps, h) stop =
    ap (len_of ml_literal_text) (ml_literal_pieces_again t rest ps h stop) ∙ ap (λ s. Some (length s)) (sym h.spelled)

pub ml_literal_pieces_one : (t : List ℕ) (ps qs : List Piece) → IsMlLiteralOf t ps → IsMlLiteralOf t qs → ps ≡ qs
ml_literal_pieces_one t ps qs h k =
    let e : Some ps ≡ Some qs = sym (ml_literal_pieces_again t [] ps h refl) ∙ ml_literal_pieces_again t [] qs k refl in
    cc

pub ml_literal_prefix : (t rest : List ℕ) → MlLiteral t
    → (k : ℕ) × (ml_literal_at (t ++ rest) ≡ Some k) × (length t ≤ k)
ml_literal_prefix t rest (ps, h) =
    let m = ml_literal_many t rest ps h in
    let long = ap length h.spelled in (
      length (ml_literal_text m.all),
      ap (len_of ml_literal_text) (ml_literal_pieces t rest ps h),
      omega (arith, m.longer, long),
    )

pub ml_literal_longest : (text : List ℕ) (n : ℕ) → ml_literal_at text ≡ Some n → (m : ℕ) → m ≤ length text
    → MlLiteral (take m text) → m ≤ n
ml_literal_longest text n e m le h =
    longest_from ml_literal_at text n m e le (λ rest. ml_literal_prefix (take m text) rest h)
