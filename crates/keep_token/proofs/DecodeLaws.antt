-- What is left of a body's pieces, while its text is read from the left.
--
-- The code copies runs of bytes that have no backslash and handles what comes after one. `LeftOf` is its loop
-- invariant: the text that is left is that of some pieces, and the value so far with theirs is the value of all. A run
-- goes over many pieces at once (`run`, by induction over the pieces); a piece with a backslash is one that the scan
-- finds there again (`left_here`), so the code finds the escape or the line end that the string was read with. Cuts are
-- between characters, as a run ends before an ASCII byte or at the end, and a piece with a backslash is ASCII
-- (`cut_stop`, `cut_here`).
--
-- Theorems: `after_run`, `iteration_escape`, `iteration_line_end`: the invariant after each step; `left_none`: the
-- value at the end.
use Rattle.std.proofs.Common.{◌≡◌, ℕ, suc, ◌+◌, ◌<◌, ◌≤◌, Bool, true, false, not, ◌||◌, ◌==◌, List, [], ◌∷◌, ◌++◌}
use Rattle.std.proofs.Common.{length, get_or, take, drop, Option, Some, None, refl, sym, ap, ◌∙◌, subst, arith, inl}
use Rattle.std.proofs.Common.{inr, drop_at, append_assoc, append-nil, length-append, length-drop, get_or-drop}
use Rattle.std.specs.List.{prefix_len, slice_range}
use Rattle.std.specs.Str.{IsUtf8, IsAscii, IsCharBoundary}
use Rattle.std.proofs.lemmas.Bool.{cases_Bool, cases_lt, and_parts, or_from}
use Rattle.std.proofs.lemmas.Bool.Decides.{nat_tests}
use Rattle.std.proofs.lemmas.List.{drop_more, drop_all, drop-drop}
use Rattle.std.proofs.lemmas.List.Sums.{prefix_len_stops}
use Rattle.std.proofs.lemmas.Str.{IsUtf8-drop, IsCharBoundary-from_rest, IsCharBoundary-before_ascii}
use Rattle.std.proofs.lemmas.Str.{IsCharBoundary-end}
use Rattle.keep_types.specs.declared.leaf.Profile.TheVariants.{Wide}
use Rattle.keep_token.specs.Abnf.{is_ws, Newline}
use Rattle.keep_token.specs.Strings.{Piece, Plain, Letter, Number, Break, LineEnd, piece_text, piece_value, text_of}
use Rattle.keep_token.specs.Strings.{value_of, is_basic, Each, IsMlBasicPiece, takes_all}
use Rattle.keep_token.specs.Pieces.{escape_at, line_end_at, or_else, ml_basic_piece, newline_len}
use Rattle.keep_token.specs.Decoding.{IsBodyOf}
use Rattle.keep_token.specs.PieceLens.{piece_len}
use Rattle.keep_token.proofs.StringSteps.{Stops}
use Rattle.keep_token.proofs.StringManyLines.{blank_len_none, takes_all_rest}
use Rattle.keep_token.proofs.StringPieces.{ml_basic_laws}
use Rattle.keep_token.proofs.AsciiPieces.{letter_piece_ascii, number_piece_ascii, line_end_ascii, cut_after}

-- a byte that is no backslash
abbrev pub is_plain : ℕ → Bool
is_plain byte = not (byte == 0x5C)

-- the text that is left is that of these pieces, and they give what the value lacks
pub record LeftOf (pieces : List Piece) (rest value : List ℕ) : Type 0 where
  pub back : List Piece
  pub spelled : rest ≡ text_of back
  pub each : Each (IsMlBasicPiece Wide) back
  pub whole : takes_all back ≡ true
  pub given : value_of pieces ≡ value ++ value_of back

pub left_all : (body : List ℕ) (ps : List Piece) → IsBodyOf body ps → LeftOf ps body []
left_all body ps h = record { back = ps; spelled = h.spelled; each = h.each; whole = h.whole; given = refl }

-- ---- a run

record Run (back : List Piece) (n : ℕ) : Type 0 where
  pub mid : List Piece
  pub spelled : drop n (text_of back) ≡ text_of mid
  pub each : Each (IsMlBasicPiece Wide) mid
  pub whole : takes_all mid ≡ true
  pub given : value_of back ≡ take n (text_of back) ++ value_of mid

run_none : (back : List Piece) (n : ℕ) → n ≡ 0 → Each (IsMlBasicPiece Wide) back → takes_all back ≡ true → Run back n
run_none back n e each whole =
    subst (λ k. Run back k) (sym e) (record { mid = back; spelled = refl; each = each; whole = whole; given = refl })

run_one : (byte : ℕ) (more : List Piece) (n m : ℕ) → n ≡ 1 + m → Run more m → Run (Plain byte ∷ more) n
run_one byte more n m e r =
    let one : n ≡ suc m = omega arith in
    subst (λ k. Run (Plain byte ∷ more) k) (sym one)
    (record { mid = r.mid; spelled = r.spelled; each = r.each; whole = r.whole; given = ap (λ t. byte ∷ t) r.given })

run_break : (newline : List ℕ) (more : List Piece) (n : ℕ) → Newline newline
    → n ≡ prefix_len is_plain (newline ++ text_of more) → Run more (prefix_len is_plain (text_of more))
    → Run (Break newline ∷ more) n
run_break newline more n (inl same) e r =
    let m = prefix_len is_plain (text_of more) in
    let one : n ≡ suc m = (let f = rw same at e in omega arith) in
    subst (λ k. Run (Break newline ∷ more) k) (sym one)
    (subst (λ t. Run (Break t ∷ more) (suc m)) (sym same)
    (record { mid = r.mid; spelled = r.spelled; each = r.each; whole = r.whole; given = ap (λ t. 0x0A ∷ t) r.given }))
run_break newline more n (inr same) e r =
    let m = prefix_len is_plain (text_of more) in
    let two : n ≡ suc (suc m) = (let f = rw same at e in omega arith) in
    subst (λ k. Run (Break newline ∷ more) k) (sym two)
    (subst (λ t. Run (Break t ∷ more) (suc (suc m))) (sym same)
    (record {
      mid = r.mid;
      spelled = r.spelled;
      each = r.each;
      whole = r.whole;
      given = ap (λ t. 0x0D ∷ 0x0A ∷ t) r.given;
    }))

plain_test : (byte : ℕ) → (is_basic byte || byte == 0x22) ≡ true → (byte == 0x5C) ≡ false
plain_test byte h = grind (arith, nat_tests)

run : (back : List Piece) (n : ℕ) → Each (IsMlBasicPiece Wide) back → takes_all back ≡ true
    → n ≡ prefix_len is_plain (text_of back) → Run back n
run [] n each whole e = run_none [] n e each whole
run (Plain byte ∷ more) n each whole e =
    let plain = plain_test byte each.0 in
    let m = prefix_len is_plain (text_of more) in
    let one : n ≡ 1 + m = rw plain at e in
    run_one byte more n m one (run more m each.1 (takes_all_rest (Plain byte) more whole) refl)
run (Break newline ∷ more) n each whole e =
    run_break newline more n each.0 e
    (run more (prefix_len is_plain (text_of more)) each.1 (takes_all_rest (Break newline) more whole) refl)
run (Letter a ∷ more) n each whole e = run_none (Letter a ∷ more) n e each whole
run (Number a b ∷ more) n each whole e = run_none (Number a b ∷ more) n e each whole
run (LineEnd a b c ∷ more) n each whole e = run_none (LineEnd a b c ∷ more) n e each whole

pub left_run : (ps : List Piece) (body value : List ℕ) (at n : ℕ) → LeftOf ps (drop at body) value
    → n ≡ prefix_len is_plain (drop at body) → LeftOf ps (drop (at + n) body) (value ++ take n (drop at body))
left_run ps body value at n l e =
    let r = run l.back n l.each l.whole (e ∙ ap (prefix_len is_plain) l.spelled) in
    record {
      back = r.mid;
      spelled = sym (drop-drop n at body) ∙ ap (drop n) l.spelled ∙ r.spelled;
      each = r.each;
      whole = r.whole;
      given = l.given ∙ ap (λ t. value ++ t) (r.given ∙ ap (λ t. take n t ++ value_of r.mid) (sym l.spelled))
          ∙ sym (append_assoc value (take n (drop at body)) (value_of r.mid));
    }

-- ---- the end

no_text : (back : List Piece) → Each (IsMlBasicPiece Wide) back → [] ≡ text_of back → back ≡ []
no_text [] each e = refl
no_text (p ∷ more) each e =
    let laws = ml_basic_laws Wide in
    absurd (omega (arith, laws.some p each.0, ap length e, length-append (piece_text p) (text_of more)))

pub left_none : (ps : List Piece) (body value : List ℕ) (at : ℕ) → LeftOf ps (drop at body) value → at ≡ length body
    → value ≡ value_of ps
left_none ps body value at l e =
    let empty = no_text l.back l.each (sym (drop_all at body (omega arith)) ∙ l.spelled) in
    sym (append-nil value) ∙ ap (λ qs. value ++ value_of qs) (sym empty) ∙ sym l.given

-- ---- a backslash

unset : (b : Bool) → not b ≡ true → b ≡ false
unset true h = absurd cc
unset false h = refl

stops_body : (p : Piece) (ps : List Piece) → Each (IsMlBasicPiece Wide) ps → takes_all (p ∷ ps) ≡ true
    → Stops p (text_of ps)
stops_body (LineEnd x y z) [] h all = refl
stops_body (LineEnd x y z) (Plain b ∷ ps) h all =
    let laws = ml_basic_laws Wide in
    let parts = and_parts (not (is_ws b)) (takes_all (Plain b ∷ ps)) all in
    let line = laws.plain b h.0 in
    blank_len_none b (text_of ps) (or_from (is_ws b) (b == 0x0A) (unset (is_ws b) parts.0) line.0) line.1
stops_body (LineEnd x y z) (Letter b ∷ ps) h all = blank_len_none 0x5C (b ∷ text_of ps) refl refl
stops_body (LineEnd x y z) (Number b ds ∷ ps) h all = blank_len_none 0x5C (b ∷ ds ++ text_of ps) refl refl
stops_body (LineEnd x y z) (Break b ∷ ps) h all = absurd cc
stops_body (LineEnd x y z) (LineEnd a b d ∷ ps) h all = blank_len_none 0x5C ((a ++ (b ++ d)) ++ text_of ps) refl refl
stops_body (Plain b) ps h all = tt
stops_body (Letter b) ps h all = tt
stops_body (Number b ds) ps h all = tt
stops_body (Break b) ps h all = tt

-- the piece at a backslash: its text, which is ASCII, and what is left after it
pub record Here (ps : List Piece) (rest after value : List ℕ) : Type 0 where
  pub piece : Piece
  pub found : or_else (escape_at Wide after) (line_end_at after) ≡ Some piece
  pub ascii : IsAscii (piece_text piece)
  pub more : List ℕ
  pub spelled : rest ≡ piece_text piece ++ more
  pub left : LeftOf ps more (value ++ piece_value piece)

here : (ps : List Piece) (rest after value : List ℕ) (p : Piece) (more : List Piece) → rest ≡ 0x5C ∷ after
    → rest ≡ text_of (p ∷ more) → Each (IsMlBasicPiece Wide) (p ∷ more) → takes_all (p ∷ more) ≡ true
    → value_of ps ≡ value ++ value_of (p ∷ more) → IsAscii (piece_text p) → Here ps rest after value
here ps rest after value p more starts spelled each whole given ascii =
    let laws = ml_basic_laws Wide in
    let again = laws.again p (text_of more) each.0 (stops_body p more each.1 whole) in
    record {
      piece = p;
      found = ap (ml_basic_piece Wide) (sym starts ∙ spelled) ∙ again;
      ascii = ascii;
      more = text_of more;
      spelled = spelled;
      left = record {
        back = more;
        spelled = refl;
        each = each.1;
        whole = takes_all_rest p more whole;
        given = given
            ∙ sym (append_assoc value (piece_value p) (value_of more));
      };
    }

no_break : (newline more after : List ℕ) → Newline newline → 0x5C ∷ after ≡ newline ++ more → ⊥
no_break newline more after (inl same) e = omega (arith, ap (λ t. get_or t 0 0) (e ∙ ap (λ s. s ++ more) same))
no_break newline more after (inr same) e = omega (arith, ap (λ t. get_or t 0 0) (e ∙ ap (λ s. s ++ more) same))

here_of : (ps : List Piece) (rest after value : List ℕ) (back : List Piece) → rest ≡ 0x5C ∷ after → rest ≡ text_of back
    → Each (IsMlBasicPiece Wide) back → takes_all back ≡ true
    → value_of ps ≡ value ++ value_of back → Here ps rest after value
here_of ps rest after value [] starts spelled each whole given = absurd (let e = sym starts ∙ spelled in cc)
here_of ps rest after value (Plain b ∷ more) starts spelled each whole given =
    let same : b ≡ 0x5C = (let e = sym starts ∙ spelled in cc) in
    absurd (let f = rw same at (plain_test b each.0) in cc)
here_of ps rest after value (Break b ∷ more) starts spelled each whole given =
    absurd (no_break b (text_of more) after each.0 (sym starts ∙ spelled))
here_of ps rest after value (Letter a ∷ more) starts spelled each whole given =
    here ps rest after value (Letter a) more starts spelled each whole given (letter_piece_ascii a each.0)
here_of ps rest after value (Number a b ∷ more) starts spelled each whole given =
    here ps rest after value (Number a b) more starts spelled each whole given (number_piece_ascii a b each.0)
here_of ps rest after value (LineEnd a b c ∷ more) starts spelled each whole given =
    here ps rest after value (LineEnd a b c) more starts spelled each whole given (line_end_ascii a b c each.0)

-- the byte at which a run stops
pub stop_byte : (body : List ℕ) (at n : ℕ) → n ≡ prefix_len is_plain (drop at body) → at + n < length body
    → get_or body (at + n) 0 ≡ 0x5C
stop_byte body at n e h =
    let stops = prefix_len_stops is_plain (drop at body) 0 (omega (arith, e, length-drop at body)) in
    let there : is_plain (get_or body (at + n) 0) ≡ false =
    ap is_plain (sym (get_or-drop at body n 0)) ∙ ap (λ i. is_plain (get_or (drop at body) i 0)) e ∙ stops in
    grind (arith, nat_tests)

pub left_here : (ps : List Piece) (body value : List ℕ) (stop : ℕ) → LeftOf ps (drop stop body) value
    → stop < length body → get_or body stop 0 ≡ 0x5C → Here ps (drop stop body) (drop (stop + 1) body) value
left_here ps body value stop l h byte =
    here_of ps (drop stop body) (drop (stop + 1) body) value l.back
    (drop_more body stop 0 h ∙ ap (λ (c : ℕ). c ∷ drop (stop + 1) body) byte) l.spelled l.each l.whole l.given

after_here : (ps : List Piece) (body value : List ℕ) (stop n : ℕ)
    (h : Here ps (drop stop body) (drop (stop + 1) body) value) → n ≡ length (piece_text h.piece)
    → h.more ≡ drop (stop + n) body
after_here ps body value stop n h e =
    sym (drop_at (piece_text h.piece) h.more n (sym e)) ∙ ap (drop n) (sym h.spelled) ∙ drop-drop n stop body

-- a text may be cut after the piece
pub cut_here : (ps : List Piece) (body value : List ℕ) (stop n : ℕ)
    (h : Here ps (drop stop body) (drop (stop + 1) body) value) → n ≡ length (piece_text h.piece) → IsUtf8 body
    → IsCharBoundary body stop → IsCharBoundary body (stop + n)
cut_here ps body value stop n h e u here =
    let cut = cut_after (drop stop body) (piece_text h.piece) h.more h.spelled (IsUtf8-drop body stop u here) h.ascii in
    IsCharBoundary-from_rest body stop n here.0 (subst (λ k. IsCharBoundary (drop stop body) k) (sym e) cut)

-- the piece is the escape that is found, or else the line-ending backslash
pub here_escape : (ps : List Piece) (rest after value : List ℕ) (h : Here ps rest after value) (q : Piece)
    → escape_at Wide after ≡ Some q → q ≡ h.piece
here_escape ps rest after value h q e =
    let f : Some q ≡ Some h.piece = ap (λ (o : Option Piece). or_else o (line_end_at after)) (sym e) ∙ h.found in
    cc

pub here_line_end : (ps : List Piece) (rest after value : List ℕ) (h : Here ps rest after value)
    → escape_at Wide after ≡ None → line_end_at after ≡ Some h.piece
here_line_end ps rest after value h e = ap (λ (o : Option Piece). or_else o (line_end_at after)) (sym e) ∙ h.found

-- ---- one iteration

-- where a run stops, the text may be cut
pub cut_stop : (body : List ℕ) (at n : ℕ) → n ≡ prefix_len is_plain (drop at body) → at + n ≤ length body
    → IsCharBoundary body (at + n)
cut_stop body at n e h =
    elim (cases_lt (at + n) (length body)) [
      | inl within ↦ IsCharBoundary-before_ascii body (at + n) within (omega (arith, stop_byte body at n e within))
      | inr past ↦
          subst (λ k. IsCharBoundary body k) (let same : length body ≡ at + n = omega arith in same)
          (IsCharBoundary-end body)
    ]

pub after_run : (ps : List Piece) (body value part new : List ℕ) (at n : ℕ) → LeftOf ps (drop at body) value
    → n ≡ prefix_len is_plain (drop at body) → part ≡ slice_range body at (at + n) → new ≡ value ++ part
    → LeftOf ps (drop (at + n) body) new
after_run ps body value part new at n l e cut grown =
    let same : part ≡ take n (drop at body) = cut ∙ ap (λ k. take k (drop at body)) (omega arith) in
    subst (LeftOf ps (drop (at + n) body)) (sym (grown ∙ ap (λ t. value ++ t) same)) (left_run ps body value at n l e)

-- what holds again after a piece
pub record Iteration (ps : List Piece) (body new : List ℕ) (at : ℕ) : Type 0 where
  pub cut : IsCharBoundary body at
  pub left : LeftOf ps (drop at body) new

iteration : (ps : List Piece) (body value new : List ℕ) (stop n : ℕ)
    (h : Here ps (drop stop body) (drop (stop + 1) body) value) → n ≡ length (piece_text h.piece)
    → new ≡ value ++ piece_value h.piece → IsUtf8 body → IsCharBoundary body stop
    → Iteration ps body new (stop + n)
iteration ps body value new stop n h e grown u cut = record {
  cut = cut_here ps body value stop n h e u cut;
  left = subst (λ t. LeftOf ps t new) (after_here ps body value stop n h e)
      (subst (LeftOf ps h.more) (sym grown) h.left);
}

pub iteration_escape : (ps : List Piece) (body value bytes new : List ℕ) (stop n : ℕ) (q : Piece)
    → LeftOf ps (drop stop body) value → stop < length body → get_or body stop 0 ≡ 0x5C
    → escape_at Wide (drop (stop + 1) body) ≡ Some q → n ≡ length (piece_text q) → bytes ≡ piece_value q
    → new ≡ value ++ bytes → IsUtf8 body → IsCharBoundary body stop → Iteration ps body new (stop + n)
iteration_escape ps body value bytes new stop n q l h byte found len given grown u cut =
    let here = left_here ps body value stop l h byte in
    let same = here_escape ps (drop stop body) (drop (stop + 1) body) value here q found in
    iteration ps body value new stop n here (len ∙ ap (λ p. length (piece_text p)) same)
    (grown ∙ ap (λ t. value ++ t) (given ∙ ap piece_value same)) u cut

line_end_value : (p : Piece) (a b c : List ℕ) → Some (LineEnd a b c) ≡ Some p → piece_value p ≡ []
line_end_value p a b c e = let f : LineEnd a b c ≡ p = cc in ap piece_value (sym f)

line_end_gives : (text : List ℕ) (p : Piece) → line_end_at text ≡ Some p → piece_value p ≡ []
line_end_gives text p e =
    let white = prefix_len is_ws text in
    let newline = newline_len (drop white text) in
    elim (cases_Bool (newline == 0)) [
      | inl f ↦ absurd (let g = rw f at e in cc)
      | inr f ↦ let g = rw f at e in line_end_value p _ _ _ g
    ]

pub iteration_line_end : (ps : List Piece) (body value : List ℕ) (stop n : ℕ) → LeftOf ps (drop stop body) value
    → stop < length body → get_or body stop 0 ≡ 0x5C
    → escape_at Wide (drop (stop + 1) body) ≡ None → piece_len (line_end_at (drop (stop + 1) body)) ≡ Some n
    → IsUtf8 body → IsCharBoundary body stop → Iteration ps body value (stop + n)
iteration_line_end ps body value stop n l h byte none found u cut =
    let here = left_here ps body value stop l h byte in
    let line = here_line_end ps (drop stop body) (drop (stop + 1) body) value here none in
    let len : Some n ≡ Some (length (piece_text here.piece)) = sym found ∙ ap piece_len line in
    let empty = line_end_gives (drop (stop + 1) body) here.piece line in
    iteration ps body value value stop n here (cc) (sym (append-nil value) ∙ ap (λ t. value ++ t) (sym empty)) u cut

pub no_iteration : (ps : List Piece) (body value : List ℕ) (stop : ℕ) → LeftOf ps (drop stop body) value
    → stop < length body → get_or body stop 0 ≡ 0x5C
    → escape_at Wide (drop (stop + 1) body) ≡ None → piece_len (line_end_at (drop (stop + 1) body)) ≡ None → ⊥
no_iteration ps body value stop l h byte none missed =
    let here = left_here ps body value stop l h byte in
    let line = here_line_end ps (drop stop body) (drop (stop + 1) body) value here none in
    let f : None ≡ Some (length (piece_text here.piece)) = sym missed ∙ ap piece_len line in
    cc
