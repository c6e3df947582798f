-- What is between the quotation marks of a string, where a text may be cut there, and what it means.
--
-- A string is its opening, the text of its pieces, and its closing mark or marks. The opening and the closing are
-- ASCII, so the text may be cut where the pieces begin and end (`start_cut`, `end_cut`). Over many lines a newline
-- right after the opening belongs to the opening; without it, the pieces that are left mean what the string means
-- (`Parts`, `parts`). A literal string means its own text (`literal_value`), and the pieces of one line are among those
-- of many (`all_of_many`).
--
-- Theorems: `basic_body`, `ml_basic_parts`, `ml_literal_parts` and `ml_basic_body`.
use Rattle.std.proofs.Common.{◌≡◌, ℕ, ◌+◌, ◌-◌, ◌<◌, true, false, ◌==◌, List, [], ◌∷◌, ◌++◌, length, take, drop, Option}
use Rattle.std.proofs.Common.{refl, sym, ap, ◌∙◌, subst, arith, inl, inr, append_assoc, length-append, drop_at, take_at}
use Rattle.std.specs.List.{slice_range}
use Rattle.std.specs.Str.{IsUtf8, IsAscii, IsCharBoundary}
use Rattle.keep_types.specs.declared.leaf.Profile.TheVariants.{Wide}
use Rattle.keep_token.specs.Abnf.{Newline}
use Rattle.keep_token.specs.Strings.{Piece, Plain, Letter, Number, Break, LineEnd, text_of, value_of, ml_value_of}
use Rattle.keep_token.specs.Strings.{is_basic, Each, IsBasicPiece, IsMlBasicPiece, IsLiteralPiece, IsMlLiteralPiece}
use Rattle.keep_token.specs.Strings.{IsMlBasicOf, IsMlLiteralOf, takes_all}
use Rattle.keep_token.specs.Pieces.{newline_len, ml_basic_piece, ml_literal_piece}
use Rattle.keep_token.specs.Decoding.{IsBodyOf}
use Rattle.keep_token.proofs.StringSteps.{PieceLaws}
use Rattle.keep_token.proofs.StringManyLines.{takes_all_rest}
use Rattle.keep_token.proofs.StringPieces.{ml_basic_laws, ml_literal_laws}
use Rattle.std.proofs.lemmas.Bool.{or_left}
use Rattle.keep_token.proofs.AsciiPieces.{ascii_none, ascii_more, newline_ascii, cut_after, cut_before}

-- ---- between ASCII

pub start_cut : (text prefix body back : List ℕ) (start : ℕ) → text ≡ prefix ++ (body ++ back) → IsUtf8 text
    → IsAscii prefix → start ≡ length prefix → IsCharBoundary text start
start_cut text prefix body back start e u ascii len =
    subst (λ k. IsCharBoundary text k) (sym len) (cut_after text prefix (body ++ back) e u ascii)

pub end_cut : (text prefix body back : List ℕ) (end : ℕ) → text ≡ prefix ++ (body ++ back) → IsAscii back
    → end + length back ≡ length text → IsCharBoundary text end
end_cut text prefix body back end e ascii len =
    let same : length (prefix ++ body) ≡ end =
    omega (
      arith,
      len,
      ap length e,
      length-append prefix (body ++ back),
      length-append body back,
      length-append prefix body,
    ) in
    subst (λ k. IsCharBoundary text k) same
    (cut_before text (prefix ++ body) back (e ∙ sym (append_assoc prefix body back)) ascii)

pub nested : (text prefix body back : List ℕ) (start end : ℕ) → text ≡ prefix ++ (body ++ back) → start ≡ length prefix
    → end + length back ≡ length text → slice_range text start end ≡ body
nested text prefix body back start end e first last =
    let rest : drop start text ≡ body ++ back = ap (drop start) e ∙ drop_at prefix (body ++ back) start (sym first) in
    let len : length body ≡ end - start =
    omega (arith, last, first, ap length e, length-append prefix (body ++ back), length-append body back) in
    ap (take (end - start)) rest ∙ take_at body back (end - start) len

pub one_ascii : (mark : ℕ) → mark < 128 → IsAscii (mark ∷ [])
one_ascii mark h = ascii_more mark [] h ascii_none

pub three_ascii : (mark : ℕ) (more : List ℕ) → mark < 128 → IsAscii more → IsAscii (mark ∷ mark ∷ mark ∷ more)
three_ascii mark more h ascii =
    ascii_more mark (mark ∷ mark ∷ more) h (ascii_more mark (mark ∷ more) h (ascii_more mark more h ascii))

-- ---- literal strings mean their text

pub literal_value : (ps : List Piece) → Each IsLiteralPiece ps → value_of ps ≡ text_of ps
literal_value [] each = refl
literal_value (Plain b ∷ ps) each = ap (λ t. b ∷ t) (literal_value ps each.1)
literal_value (Letter a ∷ ps) each = absurd each.0
literal_value (Number a b ∷ ps) each = absurd each.0
literal_value (Break a ∷ ps) each = absurd each.0
literal_value (LineEnd a b c ∷ ps) each = absurd each.0

pub ml_literal_value : (ps : List Piece) → Each IsMlLiteralPiece ps → value_of ps ≡ text_of ps
ml_literal_value [] each = refl
ml_literal_value (Plain b ∷ ps) each = ap (λ t. b ∷ t) (ml_literal_value ps each.1)
ml_literal_value (Break a ∷ ps) each = ap (λ t. a ++ t) (ml_literal_value ps each.1)
ml_literal_value (Letter a ∷ ps) each = absurd each.0
ml_literal_value (Number a b ∷ ps) each = absurd each.0
ml_literal_value (LineEnd a b c ∷ ps) each = absurd each.0

-- ---- the pieces of one line are among those of many

one_of_many : (p : Piece) → IsBasicPiece Wide p → IsMlBasicPiece Wide p
one_of_many (Plain b) h = or_left (is_basic b) (b == 0x22) h
one_of_many (Letter a) h = h
one_of_many (Number a b) h = h
one_of_many (Break a) h = absurd h
one_of_many (LineEnd a b c) h = absurd h

all_of_many : (ps : List Piece) → Each (IsBasicPiece Wide) ps → Each (IsMlBasicPiece Wide) ps
all_of_many [] each = tt
all_of_many (p ∷ ps) each = (one_of_many p each.0, all_of_many ps each.1)

no_line_end : (ps : List Piece) → Each (IsBasicPiece Wide) ps → takes_all ps ≡ true
no_line_end [] each = refl
no_line_end (p ∷ []) each = refl
no_line_end (Plain a ∷ q ∷ ps) each = no_line_end (q ∷ ps) each.1
no_line_end (Letter a ∷ q ∷ ps) each = no_line_end (q ∷ ps) each.1
no_line_end (Number a b ∷ q ∷ ps) each = no_line_end (q ∷ ps) each.1
no_line_end (Break a ∷ q ∷ ps) each = absurd each.0
no_line_end (LineEnd a b c ∷ q ∷ ps) each = absurd each.0

pub basic_body : (body : List ℕ) (ps : List Piece) → body ≡ text_of ps → Each (IsBasicPiece Wide) ps → IsBodyOf body ps
basic_body body ps e each = record { spelled = e; each = all_of_many ps each; whole = no_line_end ps each }

-- ---- a newline directly after the opening

pub record Parts (P : Piece → Type 0) (mark : ℕ) (text : List ℕ) (ps : List Piece) : Type 0 where
  pub newline : List ℕ
  pub rest : List Piece
  pub ascii : IsAscii newline
  pub len : newline_len (drop 3 text) ≡ length newline
  pub spelled : text ≡ (mark ∷ mark ∷ mark ∷ newline) ++ (text_of rest ++ (mark ∷ mark ∷ mark ∷ []))
  pub given : ml_value_of ps ≡ value_of rest
  pub each : Each P rest
  pub whole : takes_all ps ≡ true → takes_all rest ≡ true

newline_none : (c : ℕ) (cs : List ℕ) → (c == 0x0A) ≡ false → (c == 0x0D) ≡ false → newline_len (c ∷ cs) ≡ 0
newline_none c cs e f = rw (e, f) refl

newline_counted : (newline more : List ℕ) → Newline newline → newline_len (newline ++ more) ≡ length newline
newline_counted newline more (inl e) = rw e refl
newline_counted newline more (inr e) = rw e refl

no_newline : (P : Piece → Type 0) (mark : ℕ) (text : List ℕ) (ps : List Piece)
    → text ≡ mark ∷ mark ∷ mark ∷ text_of ps ++ (mark ∷ mark ∷ mark ∷ []) → Each P ps
    → newline_len (text_of ps ++ (mark ∷ mark ∷ mark ∷ [])) ≡ 0 → ml_value_of ps ≡ value_of ps → Parts P mark text ps
no_newline P mark text ps spelled each none given = record {
  newline = [];
  rest = ps;
  ascii = ascii_none;
  len = ap (λ t. newline_len (drop 3 t)) spelled ∙ none;
  spelled = spelled;
  given = given;
  each = each;
  whole = λ h. h;
}

pub parts : (P : Piece → Type 0) (piece : List ℕ → Option Piece) → PieceLaws P piece → (mark : ℕ)
    → (mark == 0x0A) ≡ false → (mark == 0x0D) ≡ false → (text : List ℕ) (ps : List Piece)
    → text ≡ mark ∷ mark ∷ mark ∷ text_of ps ++ (mark ∷ mark ∷ mark ∷ []) → Each P ps → Parts P mark text ps
parts P piece laws mark lf cr text [] spelled each =
    no_newline P mark text [] spelled each (newline_none mark (mark ∷ mark ∷ []) lf cr) refl
parts P piece laws mark lf cr text (Plain b ∷ ps) spelled each =
    let line = laws.plain b each.0 in
    no_newline P mark text (Plain b ∷ ps) spelled each
    (newline_none b (text_of ps ++ (mark ∷ mark ∷ mark ∷ [])) line.0 line.1) refl
parts P piece laws mark lf cr text (Letter a ∷ ps) spelled each =
    no_newline P mark text (Letter a ∷ ps) spelled each refl refl
parts P piece laws mark lf cr text (Number a b ∷ ps) spelled each =
    no_newline P mark text (Number a b ∷ ps) spelled each refl refl
parts P piece laws mark lf cr text (LineEnd a b c ∷ ps) spelled each =
    no_newline P mark text (LineEnd a b c ∷ ps) spelled each refl refl
parts P piece laws mark lf cr text (Break newline ∷ ps) spelled each =
    let tail = mark ∷ mark ∷ mark ∷ [] in
    let line = laws.newline newline each.0 in
    let split : text ≡ (mark ∷ mark ∷ mark ∷ newline) ++ (text_of ps ++ tail) =
    spelled ∙ ap (λ t. mark ∷ mark ∷ mark ∷ t) (append_assoc newline (text_of ps) tail) in
    record {
      newline = newline;
      rest = ps;
      ascii = newline_ascii newline line;
      len = ap (λ t. newline_len (drop 3 t)) split ∙ newline_counted newline (text_of ps ++ tail) line;
      spelled = split;
      given = refl;
      each = each.1;
      whole = takes_all_rest (Break newline) ps;
    }

pub ml_basic_parts : (text : List ℕ) (ps : List Piece) → IsMlBasicOf Wide text ps
    → Parts (IsMlBasicPiece Wide) 0x22 text ps
ml_basic_parts text ps h =
    parts (IsMlBasicPiece Wide) (ml_basic_piece Wide) (ml_basic_laws Wide) 0x22 refl refl text ps h.spelled h.each

pub ml_literal_parts : (text : List ℕ) (ps : List Piece) → IsMlLiteralOf text ps → Parts IsMlLiteralPiece 0x27 text ps
ml_literal_parts text ps h =
    parts IsMlLiteralPiece ml_literal_piece ml_literal_laws 0x27 refl refl text ps h.spelled h.each

-- the marks and the newline
abbrev pub opening : (P : Piece → Type 0) (mark : ℕ) (text : List ℕ) (ps : List Piece) → Parts P mark text ps → List ℕ
opening P mark text ps p = mark ∷ mark ∷ mark ∷ p.newline

pub opening_len : (P : Piece → Type 0) (mark : ℕ) (text : List ℕ) (ps : List Piece) (p : Parts P mark text ps) (n : ℕ)
    → n ≡ newline_len (drop 3 text) → 3 + n ≡ length (opening P mark text ps p)
opening_len P mark text ps p n e = omega (arith, e, p.len)

pub opening_ascii : (P : Piece → Type 0) (mark : ℕ) (text : List ℕ) (ps : List Piece) (p : Parts P mark text ps)
    → mark < 128 → IsAscii (opening P mark text ps p)
opening_ascii P mark text ps p h = three_ascii mark p.newline h p.ascii

pub starts : (P : Piece → Type 0) (mark : ℕ) (text : List ℕ) (ps : List Piece) (p : Parts P mark text ps) (n : ℕ)
    → n ≡ newline_len (drop 3 text) → mark < 128 → IsUtf8 text → IsCharBoundary text (3 + n)
starts P mark text ps p n e h u =
    start_cut text (opening P mark text ps p) (text_of p.rest) (mark ∷ mark ∷ mark ∷ []) (3 + n) p.spelled u
    (opening_ascii P mark text ps p h) (opening_len P mark text ps p n e)

pub ends : (P : Piece → Type 0) (mark : ℕ) (text : List ℕ) (ps : List Piece) (p : Parts P mark text ps) → mark < 128
    → IsCharBoundary text (length text - 3)
ends P mark text ps p h =
    let len : length text - 3 + 3 ≡ length text = omega (arith, ap length p.spelled) in
    end_cut text (opening P mark text ps p) (text_of p.rest) (mark ∷ mark ∷ mark ∷ []) (length text - 3) p.spelled
    (three_ascii mark [] h ascii_none) len

pub between_marks : (P : Piece → Type 0) (mark : ℕ) (text : List ℕ) (ps : List Piece) (p : Parts P mark text ps) (n : ℕ)
    → n ≡ newline_len (drop 3 text) → slice_range text (3 + n) (length text - 3) ≡ text_of p.rest
between_marks P mark text ps p n e =
    let len : length text - 3 + 3 ≡ length text = omega (arith, ap length p.spelled) in
    nested text (opening P mark text ps p) (text_of p.rest) (mark ∷ mark ∷ mark ∷ []) (3 + n) (length text - 3)
    p.spelled (opening_len P mark text ps p n e) len

pub ml_basic_body : (body text : List ℕ) (ps : List Piece) → IsMlBasicOf Wide text ps
    → (p : Parts (IsMlBasicPiece Wide) 0x22 text ps) → body ≡ text_of p.rest → IsBodyOf body p.rest
ml_basic_body body text ps h p e = record { spelled = e; each = p.each; whole = p.whole h.whole }
