-- How far a string's pieces reach, from any place after its opening: the equations that a scan follows.
--
-- Theorems: `reach_piece`: from a place with a piece, the string reaches as far as from after the piece; `reach_run`:
-- so it does where each byte of a run is a piece; `reach_closed`: where the string closes, it reaches as far as the
-- pieces before the closing.
use Rattle.std.proofs.Common.{◌≡◌, ℕ, zero, suc, ◌+◌, ◌<◌, ◌≤◌, Bool, true, List, [], ◌∷◌, length, drop, Option, Some}
use Rattle.std.proofs.Common.{None, refl, sym, ap, ◌∙◌, arith, inl, inr, add-zero, length-append, length-drop}
use Rattle.std.specs.List.{prefix_len}
use Rattle.std.proofs.lemmas.Bool.{cases_Bool}
use Rattle.std.proofs.lemmas.List.{drop-drop}
use Rattle.keep_token.specs.Strings.{Piece, piece_text, text_of}
use Rattle.keep_token.specs.Pieces.{before, closes, first_of, onward, pieces_by, pieces_of}

-- each piece takes a byte or more of the text that it is found in
abbrev pub TakesSome : (List ℕ → Option Piece) → Type 0
TakesSome piece = (text : List ℕ) (p : Piece) → piece text ≡ Some p → (0 < length (piece_text p)) × (0 < length text)

-- ---- any two counts of steps that suffice agree

onward_same : (rest rest' : List ℕ → Option (List Piece)) (text : List ℕ) (o : Option Piece)
    → ((p : Piece) → o ≡ Some p → rest (drop (length (piece_text p)) text) ≡ rest' (drop (length (piece_text p)) text))
    → onward rest text o ≡ onward rest' text o
onward_same rest rest' text None same = refl
onward_same rest rest' text (Some p) same = ap (before p) (same p refl)

pieces_same : (piece : List ℕ → Option Piece) → TakesSome piece → (many : Bool) (mark n m : ℕ) (text : List ℕ)
    → length text < n → length text < m → pieces_by n piece many mark text ≡ pieces_by m piece many mark text
pieces_same piece takes many mark zero m text h k = absurd (omega arith)
pieces_same piece takes many mark (suc n) zero text h k = absurd (omega arith)
pieces_same piece takes many mark (suc n) (suc m) text h k =
    ap (first_of (closes many mark text))
    (onward_same (pieces_by n piece many mark) (pieces_by m piece many mark) text (piece text)
    (λ p e.
    let some = takes text p e in
    let len = length-drop (length (piece_text p)) text in
    pieces_same piece takes many mark n m (drop (length (piece_text p)) text) (omega (arith, some, len))
    (omega (arith, some, len))))

pub pieces_step : (piece : List ℕ → Option Piece) → TakesSome piece → (many : Bool) (mark : ℕ) (text : List ℕ)
    → pieces_of piece many mark text
    ≡ first_of (closes many mark text) (onward (pieces_of piece many mark) text (piece text))
pieces_step piece takes many mark text =
    ap (first_of (closes many mark text))
    (onward_same (pieces_by (length text) piece many mark) (pieces_of piece many mark) text (piece text)
    (λ p e.
    let some = takes text p e in
    let len = length-drop (length (piece_text p)) text in
    pieces_same piece takes many mark (length text) (suc (length (drop (length (piece_text p)) text)))
    (drop (length (piece_text p)) text) (omega (arith, some, len)) (omega arith)))

-- ---- the place at which the pieces end

unfoldable pub end_of : ℕ → Option (List Piece) → Option ℕ
end_of at None = None
end_of at (Some pieces) = Some (at + length (text_of pieces))

abbrev pub reach : (List ℕ → Option Piece) → Bool → ℕ → List ℕ → ℕ → Option ℕ
reach piece many mark bytes at = end_of at (pieces_of piece many mark (drop at bytes))

end_of-before : (at : ℕ) (p : Piece) (o : Option (List Piece))
    → end_of at (before p o) ≡ end_of (at + length (piece_text p)) o
unfolding end_of
end_of-before at p None = refl
end_of-before at p (Some ps) = ap (λ (n : ℕ). Some n) (omega (arith, length-append (piece_text p) (text_of ps)))

pub reach_closed : (piece : List ℕ → Option Piece) → TakesSome piece
    → (many : Bool) (mark : ℕ) (bytes : List ℕ) (at : ℕ) (ps : List Piece)
    → closes many mark (drop at bytes) ≡ Some ps → reach piece many mark bytes at ≡ Some (at + length (text_of ps))
unfolding end_of
reach_closed piece takes many mark bytes at ps e =
    ap (end_of at) (pieces_step piece takes many mark (drop at bytes)
    ∙ ap (λ (o : Option (List Piece)).
    first_of o (onward (pieces_of piece many mark) (drop at bytes) (piece (drop at bytes)))) e)

onward_step : (piece : List ℕ → Option Piece) → TakesSome piece
    → (many : Bool) (mark : ℕ) (text : List ℕ) (o : Option Piece)
    → closes many mark text ≡ None → piece text ≡ o
    → pieces_of piece many mark text ≡ onward (pieces_of piece many mark) text o
onward_step piece takes many mark text o still e =
    pieces_step piece takes many mark text
    ∙ ap (λ (c : Option (List Piece)). first_of c (onward (pieces_of piece many mark) text (piece text))) still
    ∙ ap (onward (pieces_of piece many mark) text) e

pub reach_none : (piece : List ℕ → Option Piece) → TakesSome piece → (many : Bool) (mark : ℕ) (bytes : List ℕ) (at : ℕ)
    → closes many mark (drop at bytes) ≡ None → piece (drop at bytes) ≡ None → reach piece many mark bytes at ≡ None
unfolding end_of
reach_none piece takes many mark bytes at still e =
    ap (end_of at) (onward_step piece takes many mark (drop at bytes) None still e)

-- one piece of the text at the start
end_step : (piece : List ℕ → Option Piece) → TakesSome piece → (many : Bool) (mark at : ℕ) (text : List ℕ) (p : Piece)
    → closes many mark text ≡ None → piece text ≡ Some p
    → end_of at (pieces_of piece many mark text)
    ≡ end_of (at + length (piece_text p)) (pieces_of piece many mark (drop (length (piece_text p)) text))
end_step piece takes many mark at text p still e =
    ap (end_of at) (onward_step piece takes many mark text (Some p) still e)
    ∙ end_of-before at p (pieces_of piece many mark (drop (length (piece_text p)) text))

pub reach_piece : (piece : List ℕ → Option Piece) → TakesSome piece
    → (many : Bool) (mark : ℕ) (bytes : List ℕ) (at n : ℕ) (p : Piece)
    → closes many mark (drop at bytes) ≡ None → piece (drop at bytes) ≡ Some p → n ≡ length (piece_text p)
    → reach piece many mark bytes at ≡ reach piece many mark bytes (at + n)
reach_piece piece takes many mark bytes at n p still e len =
    end_step piece takes many mark at (drop at bytes) p still e
    ∙ ap (λ m. end_of (at + m) (pieces_of piece many mark (drop m (drop at bytes)))) (sym len)
    ∙ ap (λ t. end_of (at + n) (pieces_of piece many mark t)) (drop-drop n at bytes)

-- ---- a run of bytes that are pieces

-- bytes of the class close no string, and each is a piece
pub record IsPlain (piece : List ℕ → Option Piece) (many : Bool) (mark : ℕ) (class : ℕ → Bool) : Type 0 where
  pub still : (c : ℕ) (cs : List ℕ) → class c ≡ true → closes many mark (c ∷ cs) ≡ None
  pub plain : (c : ℕ) (cs : List ℕ) → class c ≡ true
      → (p : Piece) × (piece (c ∷ cs) ≡ Some p) × (length (piece_text p) ≡ 1)

end_run : (piece : List ℕ → Option Piece) → TakesSome piece → (many : Bool) (mark : ℕ) (class : ℕ → Bool)
    → IsPlain piece many mark class → (n at : ℕ) (text : List ℕ)
    → n ≤ prefix_len class text
    → end_of at (pieces_of piece many mark text) ≡ end_of (at + n) (pieces_of piece many mark (drop n text))
end_run piece takes many mark class plain zero at text h =
    ap (λ m. end_of m (pieces_of piece many mark text)) (sym (add-zero at))
end_run piece takes many mark class plain (suc n) at [] h = absurd (omega arith)
end_run piece takes many mark class plain (suc n) at (c ∷ cs) h =
    elim (cases_Bool (class c)) [
      | inl e ↦
          let less : n ≤ prefix_len class cs = (let f = rw e at h in omega arith) in
          let p = plain.plain c cs e in
          end_step piece takes many mark at (c ∷ cs) p.0 (plain.still c cs e) p.1
          ∙ ap (λ m. end_of (at + m) (pieces_of piece many mark (drop m (c ∷ cs)))) p.2
          ∙ end_run piece takes many mark class plain n (at + 1) cs less
          ∙ ap (λ m. end_of m (pieces_of piece many mark (drop n cs))) (omega arith)
      | inr e ↦ absurd (let f = rw e at h in omega arith)
    ]

pub reach_run : (piece : List ℕ → Option Piece) → TakesSome piece → (many : Bool) (mark : ℕ) (class : ℕ → Bool)
    → IsPlain piece many mark class → (bytes : List ℕ) (at n : ℕ)
    → n ≤ prefix_len class (drop at bytes) → reach piece many mark bytes at ≡ reach piece many mark bytes (at + n)
reach_run piece takes many mark class plain bytes at n e =
    end_run piece takes many mark class plain n at (drop at bytes) e
    ∙ ap (λ t. end_of (at + n) (pieces_of piece many mark t)) (drop-drop n at bytes)
