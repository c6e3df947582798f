-- Strings on one line, of either kind: the pieces found spell the text, and the pieces that spell it are found.
--
-- Theorems: `prefix_one`: the text begins with the string of the pieces that are found; `again_one`: the pieces of a
-- string are found again, whatever follows it.
use Rattle.std.proofs.Common.{◌≡◌, ℕ, zero, suc, ◌<◌, true, false, ◌==◌, List, [], ◌∷◌, ◌++◌, length, drop, Option}
use Rattle.std.proofs.Common.{Some, refl, sym, ap, ◌∙◌, subst, inl, inr, arith, append_assoc, drop_at, length-append}
use Rattle.std.proofs.Common.{eqb-true, eq-eqb}
use Rattle.std.proofs.lemmas.Bool.{cases_Bool}
use Rattle.keep_token.specs.Strings.{Piece, piece_text, text_of, Each}
use Rattle.keep_token.specs.Pieces.{first, closes, onward, pieces_by, pieces_of}
use Rattle.keep_token.proofs.StringSteps.{Stops, PieceLaws, stepped, spelled_more, first_of_found, piece_count}

closes_found : (mark : ℕ) (text : List ℕ) (ps : List Piece) → (0 == mark) ≡ false → closes false mark text ≡ Some ps
    → (ps ≡ []) × ((rest : List ℕ) × (text ≡ mark ∷ rest))
closes_found mark [] ps zero_not e = absurd (let f = rw zero_not at e in cc)
closes_found mark (c ∷ cs) ps zero_not e =
    elim (cases_Bool (c == mark)) [
      | inl m ↦ let f = rw m at e in (cc, (cs, ap (λ (b : ℕ). b ∷ cs) (eqb-true c mark m)))
      | inr m ↦ absurd (let f = rw m at e in cc)
    ]

-- the pieces found on one line
pub record FoundOne (P : Piece → Type 0) (mark : ℕ) (text : List ℕ) (ps : List Piece) : Type 0 where
  pub rest : List ℕ
  pub spelled : text ≡ text_of ps ++ (mark ∷ rest)
  pub each : Each P ps

closed_one : (P : Piece → Type 0) (mark : ℕ) (text : List ℕ) (ps : List Piece) (rest : List ℕ) → ps ≡ []
    → text ≡ mark ∷ rest → FoundOne P mark text ps
closed_one P mark text ps rest same spelled = record { rest = rest; spelled = rw same spelled; each = rw same tt }

pub one_line_found : (P : Piece → Type 0) (piece : List ℕ → Option Piece) → PieceLaws P piece → (mark : ℕ)
    → (0 == mark) ≡ false
    → (n : ℕ) (text : List ℕ) (ps : List Piece) → pieces_by n piece false mark text ≡ Some ps → FoundOne P mark text ps
one_line_found P piece laws mark zero_not zero text ps e = absurd cc
one_line_found P piece laws mark zero_not (suc n) text ps e =
    elim (first_of_found (closes false mark text) (onward (pieces_by n piece false mark) text (piece text)) ps e) [
      | inl closed ↦
          let c = closes_found mark text ps zero_not closed in
          closed_one P mark text ps c.1.0 c.0 c.1.1
      | inr open_still ↦
          let s = stepped P piece laws (pieces_by n piece false mark) text ps open_still.1 in
          let b = one_line_found P piece laws mark zero_not n s.more s.after s.found in
          subst (λ qs. FoundOne P mark text qs) (sym s.all)
          (record {
            rest = b.rest;
            spelled = spelled_more s.here s.after text s.more (mark ∷ b.rest) s.spelled b.spelled;
            each = (s.allowed, b.each);
          })
    ]

-- a string on one line is found again, before anything
pub one_line_again : (P : Piece → Type 0) (piece : List ℕ → Option Piece) → PieceLaws P piece → (mark : ℕ)
    → ((p : Piece) (more : List ℕ) → P p → (first (piece_text p ++ more) == mark) ≡ false)
    → ((p : Piece) (more : List ℕ) → P p → Stops p more)
    → (n : ℕ) (ps : List Piece) (rest : List ℕ) → Each P ps → length ps < n
    → pieces_by n piece false mark (text_of ps ++ (mark ∷ rest)) ≡ Some ps
one_line_again P piece laws mark not_mark stops zero ps rest h few = absurd (omega arith)
one_line_again P piece laws mark not_mark stops (suc n) [] rest h few = rw (eq-eqb mark mark refl) refl
one_line_again P piece laws mark not_mark stops (suc n) (p ∷ ps) rest h few =
    let more = text_of ps ++ (mark ∷ rest) in
    let ih = one_line_again P piece laws mark not_mark stops n ps rest h.1 (omega arith) in
    rw (
      append_assoc (piece_text p) (text_of ps) (mark ∷ rest),
      not_mark p more h.0,
      laws.again p more h.0 (stops p more h.0),
      drop_at (piece_text p) more (length (piece_text p)) refl,
      ih,
    ) refl

-- ---- with the opening and the closing

abbrev pub one_line : ℕ → List Piece → List ℕ
one_line mark ps = mark ∷ text_of ps ++ (mark ∷ [])

-- the text is a string on one line and more
pub record PrefixOne (P : Piece → Type 0) (mark : ℕ) (text : List ℕ) (ps : List Piece) : Type 0 where
  pub rest : List ℕ
  pub spelled : text ≡ one_line mark ps ++ rest
  pub each : Each P ps

pub prefix_one : (P : Piece → Type 0) (piece : List ℕ → Option Piece) → PieceLaws P piece → (mark : ℕ)
    → (0 == mark) ≡ false
    → (text : List ℕ) (ps : List Piece) → (first text == mark) ≡ true
    → pieces_of piece false mark (drop 1 text) ≡ Some ps → PrefixOne P mark text ps
prefix_one P piece laws mark zero_not [] ps opening e = absurd (let f = rw zero_not at opening in cc)
prefix_one P piece laws mark zero_not (c ∷ cs) ps opening e =
    let f = one_line_found P piece laws mark zero_not (suc (length cs)) cs ps e in
    let spelled : c ∷ cs ≡ one_line mark ps ++ f.rest =
    ap (λ (b : ℕ). b ∷ cs) (eqb-true c mark opening)
    ∙ ap (λ t. mark ∷ t) (f.spelled ∙ sym (append_assoc (text_of ps) (mark ∷ []) f.rest)) in
    record { rest = f.rest; spelled = spelled; each = f.each }

pub again_one : (P : Piece → Type 0) (piece : List ℕ → Option Piece) → PieceLaws P piece → (mark : ℕ)
    → ((p : Piece) (more : List ℕ) → P p → (first (piece_text p ++ more) == mark) ≡ false)
    → ((p : Piece) (more : List ℕ) → P p → Stops p more)
    → (ps : List Piece) (rest : List ℕ) → Each P ps
    → pieces_of piece false mark (drop 1 (one_line mark ps ++ rest)) ≡ Some ps
again_one P piece laws mark not_mark stops ps rest h =
    let text = text_of ps ++ (mark ∷ rest) in
    let few = piece_count P piece laws ps h in
    let long = length-append (text_of ps) (mark ∷ rest) in
    ap (pieces_of piece false mark) (append_assoc (text_of ps) (mark ∷ []) rest)
    ∙ one_line_again P piece laws mark not_mark stops (suc (length text)) ps rest h (omega (arith, few, long))
