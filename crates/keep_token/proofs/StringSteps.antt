-- In any kind of string: what a kind says of its pieces, and one step of finding them from the left.
--
-- Theorems: `PieceLaws`: what each kind of string has to say of its pieces; `stepped`: if pieces are found, the first
-- is a piece of the kind at the start of the text, and the others are found after it.
use Rattle.std.proofs.Common.{◌≡◌, ℕ, ◌<◌, ◌≤◌, false, ◌==◌, List, [], ◌∷◌, ◌++◌, length, drop, Option, Some, None}
use Rattle.std.proofs.Common.{refl, sym, ap, ◌∙◌, inl, inr, arith, ◌⊎◌, append_assoc, drop_at, length-append}
use Rattle.std.specs.Prelude.{⊤}
use Rattle.keep_token.specs.Abnf.{Newline}
use Rattle.keep_token.specs.Strings.{Piece, Plain, Letter, Number, Break, LineEnd, piece_text, text_of, Each}
use Rattle.keep_token.specs.Pieces.{blank_len, before, first_of, onward}

-- a line-ending backslash is not followed by a tab, a space or a newline
abbrev pub Stops : Piece → List ℕ → Type 0
Stops (LineEnd before newline after) more = blank_len more ≡ 0
Stops (Plain byte) more = ⊤
Stops (Letter letter) more = ⊤
Stops (Number letter digits) more = ⊤
Stops (Break newline) more = ⊤

-- What a kind of string says of its pieces: which may be there, and how the first one is found.
pub record PieceLaws (P : Piece → Type 0) (piece : List ℕ → Option Piece) : Type 0 where
  pub found : (text : List ℕ) (p : Piece) → piece text ≡ Some p
      → (more : List ℕ) × (text ≡ piece_text p ++ more) × P p × Stops p more
  pub again : (p : Piece) (more : List ℕ) → P p → Stops p more → piece (piece_text p ++ more) ≡ Some p
  pub some : (p : Piece) → P p → 0 < length (piece_text p)
  pub plain : (byte : ℕ) → P (Plain byte) → ((byte == 0x0A) ≡ false) × ((byte == 0x0D) ≡ false)
  pub newline : (newline : List ℕ) → P (Break newline) → Newline newline

-- ---- one step

pub first_of_found : (a b : Option (List Piece)) (ps : List Piece) → first_of a b ≡ Some ps
    → (a ≡ Some ps) ⊎ ((a ≡ None) × (b ≡ Some ps))
first_of_found None b ps e = inr (refl, e)
first_of_found (Some a) b ps e = inl e

before_found : (p : Piece) (o : Option (List Piece)) (ps : List Piece) → before p o ≡ Some ps
    → (more : List Piece) × (o ≡ Some more) × (ps ≡ p ∷ more)
before_found p None ps e = absurd cc
before_found p (Some more) ps e = (more, refl, cc)

-- the first piece, and what is found after it
pub record Stepped (P : Piece → Type 0) (rest : List ℕ → Option (List Piece)) (text : List ℕ) (ps : List Piece) : Type
    0 where
  pub here : Piece
  pub after : List Piece
  pub more : List ℕ
  pub spelled : text ≡ piece_text here ++ more
  pub allowed : P here
  pub stops : Stops here more
  pub found : rest more ≡ Some after
  pub all : ps ≡ here ∷ after

pub stepped : (P : Piece → Type 0) (piece : List ℕ → Option Piece) → PieceLaws P piece
    → (rest : List ℕ → Option (List Piece)) (text : List ℕ) (ps : List Piece)
    → onward rest text (piece text) ≡ Some ps → Stepped P rest text ps
stepped P piece laws rest text ps e = go (piece text) refl e
  where
    go : (o : Option Piece) → piece text ≡ o → onward rest text o ≡ Some ps → Stepped P rest text ps
    go None one e = absurd cc
    go (Some p) one e =
        let b = before_found p (rest (drop (length (piece_text p)) text)) ps e in
        let f = laws.found text p one in
        let cut : drop (length (piece_text p)) text ≡ f.0 =
        ap (drop (length (piece_text p))) f.1 ∙ drop_at (piece_text p) f.0 (length (piece_text p)) refl in
        record {
          here = p;
          after = b.0;
          more = f.0;
          spelled = f.1;
          allowed = f.2;
          stops = f.3;
          found = ap rest (sym cut)
              ∙ b.1;
          all = b.2;
        }

-- a piece and what is spelled after it
pub spelled_more : (p : Piece) (ps : List Piece) (text more tail : List ℕ) → text ≡ piece_text p ++ more
    → more ≡ text_of ps ++ tail → text ≡ text_of (p ∷ ps) ++ tail
spelled_more p ps text more tail here after =
    here ∙ ap (λ t. piece_text p ++ t) after ∙ sym (append_assoc (piece_text p) (text_of ps) tail)

pub piece_count : (P : Piece → Type 0) (piece : List ℕ → Option Piece) → PieceLaws P piece → (ps : List Piece)
    → Each P ps → length ps ≤ length (text_of ps)
piece_count P piece laws [] h = omega arith
piece_count P piece laws (p ∷ ps) h =
    omega (arith, laws.some p h.0, piece_count P piece laws ps h.1, length-append (piece_text p) (text_of ps))
