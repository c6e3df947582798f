-- In each kind of string: the piece that is found spells the text and may be there, and each piece that may be there is
-- found again.
--
-- For each of the four kinds of strings there is one `PieceLaws`: what the function finds is a piece of that kind and
-- has that text, and a piece of that kind is found again whatever follows it. Each is a split by the first byte: an
-- escape, a newline, a line end after a backslash, or a plain byte. The shared parts are lemmas of both directions
-- (`escape_found` and `letter_again`, `number_again`; `break_found` and `break_again`). The hard case is the backslash
-- at the end of a line: the white space after it has to be taken to its end (`blank_found`, `blank_again`), and it must
-- not be read as an escape (`line_end_no_escape`).
--
-- Theorems: `basic_laws`, `literal_laws`, `ml_basic_laws`, `ml_literal_laws`: the laws of the pieces of each kind of
-- string.
use Rattle.std.proofs.Common.{◌≡◌, ℕ, suc, ◌+◌, ◌<◌, Bool, true, false, ◌&&◌, ◌||◌, ◌==◌, nat_lt, List, [], ◌∷◌, ◌++◌}
use Rattle.std.proofs.Common.{length, take, drop, Option, Some, None, refl, sym, ap, ◌∙◌, subst, inl, inr, arith, ◌⊎◌}
use Rattle.std.proofs.Common.{append_assoc, take_at, drop_at, take-append-drop, eqb-true, eq-eqb, lt-ltb}
use Rattle.std.proofs.lemmas.Bool.{and_parts, cases_Bool, ltb-true}
use Rattle.std.proofs.lemmas.Bool.Decides.{nat_tests}
use Rattle.std.specs.List.{prefix_len, list_all}
use Rattle.std.specs.Char.{is_digit}
use Rattle.keep_types.specs.declared.leaf.Profile.{Profile}
use Rattle.keep_types.specs.declared.leaf.Profile.TheVariants.{Strict, Wide}
use Rattle.keep_token.specs.Abnf.{is_ws, Newline}
use Rattle.keep_token.specs.Numbers.{sum_of_digits}
use Rattle.keep_token.specs.Strings.{Piece, Plain, Letter, Number, Break, LineEnd, piece_text, letter_value}
use Rattle.keep_token.specs.Strings.{digit_count, is_scalar, is_basic, is_literal, is_blank_run, IsEscape, IsBasicPiece}
use Rattle.keep_token.specs.Strings.{IsMlBasicPiece, IsLiteralPiece, IsMlLiteralPiece}
use Rattle.keep_token.specs.Pieces.{first, newline_len, blank_len, number_at, escape_at, line_end_at, or_else}
use Rattle.keep_token.specs.Pieces.{basic_piece, literal_piece, break_at, ml_basic_piece, ml_literal_piece}
use Rattle.keep_token.proofs.StringSteps.{Stops, PieceLaws}
use Rattle.keep_token.proofs.StringManyLines.{MarkOrNot}

-- the piece that begins the text, and what follows it
abbrev pub Begins : (Piece → Type 0) → List ℕ → Piece → Type 0
Begins P text p = (more : List ℕ) × (text ≡ piece_text p ++ more) × P p × Stops p more

begins_from : (P : Piece → Type 0) (text : List ℕ) (p q : Piece) → Some q ≡ Some p → Begins P text q → Begins P text p
begins_from P text p q e b = let k : q ≡ p = cc in subst (λ r. Begins P text r) k b

-- ---- escapes

number_found : (P : Piece → Type 0) (c count : ℕ) (cs : List ℕ) (p : Piece) → number_at c count cs ≡ Some p
    → (length (take count cs) ≡ count → list_all (λ d. is_digit d 16) (take count cs) ≡ true
    → is_scalar (sum_of_digits 16 (take count cs)) ≡ true → P (Number c (take count cs)))
    → Begins P (0x5C ∷ c ∷ cs) p
number_found P c count cs p e allowed =
    let digits = take count cs in
    let test : Bool =
    (length digits == count && list_all (λ d. is_digit d 16) digits) && is_scalar (sum_of_digits 16 digits) in
    elim (cases_Bool test) [
      | inl t ↦
          let scalar =
          and_parts (length digits == count && list_all (λ d. is_digit d 16) digits)
          (is_scalar (sum_of_digits 16 digits)) t in
          let count_and = and_parts (length digits == count) (list_all (λ d. is_digit d 16) digits) scalar.0 in
          let spelled : 0x5C ∷ c ∷ cs ≡ piece_text (Number c digits) ++ drop count cs =
          ap (λ (t : List ℕ). 0x5C ∷ c ∷ t) (sym (take-append-drop count cs)) in
          begins_from P (0x5C ∷ c ∷ cs) p (Number c digits) (rw t at e)
          (drop count cs, spelled, allowed (eqb-true (length digits) count count_and.0) count_and.1 scalar.1, tt)
      | inr t ↦ absurd (let f = rw t at e in cc)
    ]

escape_found : (profile : Profile) (text : List ℕ) (p : Piece) → escape_at profile text ≡ Some p
    → Begins (IsEscape profile) (0x5C ∷ text) p
escape_found profile [] p e = absurd cc
escape_found profile (c ∷ cs) p e =
    elim (cases_Bool (nat_lt 0 (letter_value profile c))) [
      | inl l ↦
          begins_from (IsEscape profile) (0x5C ∷ c ∷ cs) p (Letter c) (rw l at e)
          (cs, refl, ltb-true 0 (letter_value profile c) l, tt)
      | inr l ↦ elim (cases_Bool (nat_lt 0 (digit_count profile c))) [
        | inl d ↦
            number_found (IsEscape profile) c (digit_count profile c) cs p (rw (l, d) at e)
            (λ f g h. (ltb-true 0 (digit_count profile c) d, f, g, h))
        | inr d ↦ absurd (let f = rw (l, d) at e in cc)
      ]
    ]

-- a letter with digits has no value of its own
no_letter : (profile : Profile) (c : ℕ) → 0 < digit_count profile c → nat_lt 0 (letter_value profile c) ≡ false
no_letter Strict c h = grind (arith, nat_tests)
no_letter Wide c h = grind (arith, nat_tests)

letter_again : (profile : Profile) (letter : ℕ) (more : List ℕ) → IsEscape profile (Letter letter)
    → escape_at profile (letter ∷ more) ≡ Some (Letter letter)
letter_again profile letter more h = rw (lt-ltb 0 (letter_value profile letter) h) refl

number_again : (profile : Profile) (letter : ℕ) (digits more : List ℕ) → IsEscape profile (Number letter digits)
    → escape_at profile (letter ∷ digits ++ more) ≡ Some (Number letter digits)
number_again profile letter digits more h =
    rw (
      no_letter profile letter h.0,
      lt-ltb 0 (digit_count profile letter) h.0,
      take_at digits more (digit_count profile letter) h.1,
      eq-eqb (length digits) (digit_count profile letter) h.1,
      h.2,
      h.3,
    ) refl

blank_no_escape : (profile : Profile) (c : ℕ) (cs : List ℕ) → ((is_ws c || c == 0x0A) || c == 0x0D) ≡ true
    → escape_at profile (c ∷ cs) ≡ None
blank_no_escape profile c cs h = rw (no_value profile c h, no_count profile c h) refl
  where
    no_value : (profile : Profile) (c : ℕ) → ((is_ws c || c == 0x0A) || c == 0x0D) ≡ true
        → nat_lt 0 (letter_value profile c) ≡ false
    no_value Strict c h = grind (arith, nat_tests)
    no_value Wide c h = grind (arith, nat_tests)

    no_count : (profile : Profile) (c : ℕ) → ((is_ws c || c == 0x0A) || c == 0x0D) ≡ true
        → nat_lt 0 (digit_count profile c) ≡ false
    no_count Strict c h = grind (arith, nat_tests)
    no_count Wide c h = grind (arith, nat_tests)

escape_is_basic : (profile : Profile) (p : Piece) → IsEscape profile p → IsBasicPiece profile p
escape_is_basic profile (Letter letter) h = h
escape_is_basic profile (Number letter digits) h = h
escape_is_basic profile (Plain byte) h = absurd h
escape_is_basic profile (Break newline) h = absurd h
escape_is_basic profile (LineEnd a b c) h = absurd h

escape_is_ml_basic : (profile : Profile) (p : Piece) → IsEscape profile p → IsMlBasicPiece profile p
escape_is_ml_basic profile (Letter letter) h = h
escape_is_ml_basic profile (Number letter digits) h = h
escape_is_ml_basic profile (Plain byte) h = absurd h
escape_is_ml_basic profile (Break newline) h = absurd h
escape_is_ml_basic profile (LineEnd a b c) h = absurd h

-- ---- strings on one line

pub basic_laws : (profile : Profile) → PieceLaws (IsBasicPiece profile) (basic_piece profile)
basic_laws profile =
    record {
      found = found;
      again = again;
      some = some;
      plain = λ b h. (grind (arith, nat_tests), grind (arith, nat_tests));
      newline = λ n h. absurd h;
    }
  where
    found : (text : List ℕ) (p : Piece) → basic_piece profile text ≡ Some p → Begins (IsBasicPiece profile) text p
    found [] p e = absurd cc
    found (c ∷ cs) p e =
        elim (cases_Bool (c == 0x5C)) [
          | inl b ↦
              let f = escape_found profile cs p (rw b at e) in
              (f.0, ap (λ (d : ℕ). d ∷ cs) (eqb-true c 0x5C b) ∙ f.1, escape_is_basic profile p f.2, f.3)
          | inr b ↦ elim (cases_Bool (is_basic c)) [
            | inl a ↦ begins_from (IsBasicPiece profile) (c ∷ cs) p (Plain c) (rw (b, a) at e) (cs, refl, a, tt)
            | inr a ↦ absurd (let f = rw (b, a) at e in cc)
          ]
        ]

    again : (p : Piece) (more : List ℕ) → IsBasicPiece profile p → Stops p more
        → basic_piece profile (piece_text p ++ more) ≡ Some p
    again (Plain b) more h stops = let other : (b == 0x5C) ≡ false = grind (arith, nat_tests) in rw (other, h) refl
    again (Letter letter) more h stops = letter_again profile letter more h
    again (Number letter digits) more h stops = number_again profile letter digits more h
    again (Break n) more h stops = absurd h
    again (LineEnd a b c) more h stops = absurd h

    some : (p : Piece) → IsBasicPiece profile p → 0 < length (piece_text p)
    some (Plain b) h = omega arith
    some (Letter letter) h = omega arith
    some (Number letter digits) h = omega arith
    some (Break n) h = absurd h
    some (LineEnd a b c) h = absurd h

pub literal_laws : PieceLaws IsLiteralPiece literal_piece
literal_laws =
    record {
      found = found;
      again = again;
      some = some;
      plain = λ b h. (grind (arith, nat_tests), grind (arith, nat_tests));
      newline = λ n h. absurd h;
    }
  where
    found : (text : List ℕ) (p : Piece) → literal_piece text ≡ Some p → Begins IsLiteralPiece text p
    found [] p e = absurd cc
    found (c ∷ cs) p e =
        elim (cases_Bool (is_literal c)) [
          | inl a ↦ begins_from IsLiteralPiece (c ∷ cs) p (Plain c) (rw a at e) (cs, refl, a, tt)
          | inr a ↦ absurd (let f = rw a at e in cc)
        ]

    again : (p : Piece) (more : List ℕ) → IsLiteralPiece p → Stops p more
        → literal_piece (piece_text p ++ more) ≡ Some p
    again (Plain b) more h stops = rw h refl
    again (Letter letter) more h stops = absurd h
    again (Number letter digits) more h stops = absurd h
    again (Break n) more h stops = absurd h
    again (LineEnd a b c) more h stops = absurd h

    some : (p : Piece) → IsLiteralPiece p → 0 < length (piece_text p)
    some (Plain b) h = omega arith
    some (Letter letter) h = absurd h
    some (Number letter digits) h = absurd h
    some (Break n) h = absurd h
    some (LineEnd a b c) h = absurd h

-- none begins with the closing mark
pub basic_not_mark : (profile : Profile) (p : Piece) (more : List ℕ) → IsBasicPiece profile p
    → (first (piece_text p ++ more) == 0x22) ≡ false
basic_not_mark profile (Plain b) more h = grind (arith, nat_tests)
basic_not_mark profile (Letter letter) more h = refl
basic_not_mark profile (Number letter digits) more h = refl
basic_not_mark profile (Break n) more h = absurd h
basic_not_mark profile (LineEnd a b c) more h = absurd h

pub literal_not_mark : (p : Piece) (more : List ℕ) → IsLiteralPiece p → (first (piece_text p ++ more) == 0x27) ≡ false
literal_not_mark (Plain b) more h = grind (arith, nat_tests)
literal_not_mark (Letter letter) more h = absurd h
literal_not_mark (Number letter digits) more h = absurd h
literal_not_mark (Break n) more h = absurd h
literal_not_mark (LineEnd a b c) more h = absurd h

pub basic_stops : (profile : Profile) (p : Piece) (more : List ℕ) → IsBasicPiece profile p → Stops p more
basic_stops profile (Plain b) more h = tt
basic_stops profile (Letter letter) more h = tt
basic_stops profile (Number letter digits) more h = tt
basic_stops profile (Break n) more h = tt
basic_stops profile (LineEnd a b c) more h = absurd h

pub literal_stops : (p : Piece) (more : List ℕ) → IsLiteralPiece p → Stops p more
literal_stops (Plain b) more h = tt
literal_stops (Letter letter) more h = tt
literal_stops (Number letter digits) more h = tt
literal_stops (Break n) more h = tt
literal_stops (LineEnd a b c) more h = absurd h

-- ---- newlines and line-ending backslashes

newline_found : (text : List ℕ) → (newline_len text == 0) ≡ false → Newline (take (newline_len text) text)
newline_found [] e = absurd cc
newline_found (c ∷ []) e =
    elim (cases_Bool (c == 0x0A)) [
      | inl a ↦ inl (rw (a, eqb-true c 0x0A a) refl)
      | inr a ↦
          elim (cases_Bool (c == 0x0D)) [
            | inl b ↦ absurd (let f = rw (a, b) at e in cc)
            | inr b ↦
                absurd (let f = rw (a, b) at e in cc)
          ]
    ]
newline_found (c ∷ d ∷ cs) e =
    elim (cases_Bool (c == 0x0A)) [
      | inl a ↦ inl (rw (a, eqb-true c 0x0A a) refl)
      | inr a ↦ elim (cases_Bool (c == 0x0D && d == 0x0A)) [
        | inl b ↦ let f =
            and_parts (c == 0x0D) (d == 0x0A) b in inr (rw (a, b, eqb-true c 0x0D f.0, eqb-true d 0x0A f.1) refl)
        | inr b ↦ absurd (let f = rw (a, b) at e in cc)
      ]
    ]

newline_again : (newline more : List ℕ) → Newline newline → newline_len (newline ++ more) ≡ length newline
newline_again newline more (inl e) = rw e refl
newline_again newline more (inr e) = rw e refl

newline_some : (newline : List ℕ) → Newline newline → 0 < length newline
newline_some newline (inl e) = rw e (omega arith)
newline_some newline (inr e) = rw e (omega arith)

break_found : (P : Piece → Type 0) (text : List ℕ) (p : Piece) → break_at text ≡ Some p
    → ((newline : List ℕ) → Newline newline → P (Break newline)) → Begins P text p
break_found P text p e allowed =
    elim (cases_Bool (newline_len text == 0)) [
      | inl z ↦ absurd (let f = rw z at e in cc)
      | inr z ↦ begins_from P text p (Break (take (newline_len text) text)) (rw z at e) (
        drop (newline_len text) text,
        sym (take-append-drop (newline_len text) text),
        allowed (take (newline_len text) text) (newline_found text z),
        tt,
      )
    ]

list_all-run : (test : ℕ → Bool) (text : List ℕ) → list_all test (take (prefix_len test text) text) ≡ true
list_all-run test [] = refl
list_all-run test (c ∷ cs) =
    let one : 1 + prefix_len test cs ≡ suc (prefix_len test cs) = omega arith in
    elim (cases_Bool (test c)) [
      | inl e ↦ rw (e, one, e, list_all-run test cs) refl
      | inr e ↦ rw e refl
    ]

prefix_len-run : (test : ℕ → Bool) (run rest : List ℕ) → list_all test run ≡ true → test 0 ≡ false
    → test (first rest) ≡ false → prefix_len test (run ++ rest) ≡ length run
prefix_len-run test [] [] all none stop = refl
prefix_len-run test [] (c ∷ rest) all none stop = rw stop
prefix_len-run test (c ∷ run) rest all none stop =
    let parts = and_parts (test c) (list_all test run) all in
    rw parts.0 (omega (arith, prefix_len-run test run rest parts.1 none stop))

-- tabs, spaces and newlines, to the last
blank_found : (text : List ℕ)
    → (is_blank_run (take (blank_len text) text) ≡ true) × (blank_len (drop (blank_len text) text) ≡ 0)
blank_found [] = (refl, refl)
blank_found (c ∷ []) =
    elim (cases_Bool (is_ws c || c == 0x0A)) [
      | inl e ↦ (rw (e, e) refl, rw e refl)
      | inr e ↦ (rw e refl, rw (e, e) refl)
    ]
blank_found (c ∷ d ∷ cs) =
    elim (cases_Bool (is_ws c || c == 0x0A)) [
      | inl e ↦
          let ih = blank_found (d ∷ cs) in
          let other : (c == 0x0D) ≡ false = grind (arith, nat_tests) in
          (rw e (blank_run_more c (take (blank_len (d ∷ cs)) (d ∷ cs)) e other ih.0), rw e ih.1)
      | inr e ↦ elim (cases_Bool (c == 0x0D && d == 0x0A)) [
        | inl f ↦
            let ih = blank_found cs in
            let parts = and_parts (c == 0x0D) (d == 0x0A) f in
            (rw (e, f, parts.0, parts.1) ih.0, rw (e, f) ih.1)
        | inr f ↦ (rw (e, f) refl, rw (e, f, e, f) refl)
      ]
    ]
  where
    blank_run_more : (c : ℕ) (run : List ℕ) → (is_ws c || c == 0x0A) ≡ true → (c == 0x0D) ≡ false
        → is_blank_run run ≡ true → is_blank_run (c ∷ run) ≡ true
    blank_run_more c [] white other h = white
    blank_run_more c (d ∷ run) white other h = rw (other, white, h) refl

blank_white : (c : ℕ) (cs more : List ℕ) → (is_ws c || c == 0x0A) ≡ true → blank_len (cs ++ more) ≡ length cs
    → blank_len (c ∷ cs ++ more) ≡ suc (length cs)
blank_white c [] [] white ih = rw white refl
blank_white c [] (d ∷ more) white ih = rw white (ap suc ih)
blank_white c (d ∷ cs) more white ih = rw white (ap suc ih)

blank_again : (run more : List ℕ) → is_blank_run run ≡ true → blank_len more ≡ 0 → blank_len (run ++ more) ≡ length run
blank_again [] more h stop = stop
blank_again (c ∷ []) more h stop = blank_white c [] more h stop
blank_again (c ∷ d ∷ cs) more h stop =
    elim (cases_Bool (c == 0x0D)) [
      | inl e ↦
          let parts = and_parts (d == 0x0A) (is_blank_run cs) (rw e at h) in
          let not_white : (is_ws c || c == 0x0A) ≡ false = grind (arith, nat_tests) in
          rw (not_white, e, parts.0) (ap (λ n. suc (suc n)) (blank_again cs more parts.1 stop))
      | inr e ↦
          let parts = and_parts (is_ws c || c == 0x0A) (is_blank_run (d ∷ cs)) (rw e at h) in
          blank_white c (d ∷ cs) more parts.0 (blank_again (d ∷ cs) more parts.1 stop)
    ]

line_end_found : (P : Piece → Type 0) (text : List ℕ) (p : Piece) → line_end_at text ≡ Some p
    → ((before newline after : List ℕ) → list_all is_ws before ≡ true → Newline newline → is_blank_run after ≡ true
    → P (LineEnd before newline after))
    → Begins P (0x5C ∷ text) p
line_end_found P text p e allowed =
    let white = prefix_len is_ws text in
    let line = drop white text in
    let count = newline_len line in
    let after = drop count line in
    let blank = blank_len after in
    let last = drop blank after in
    elim (cases_Bool (count == 0)) [
      | inl z ↦ absurd (let f = rw z at e in cc)
      | inr z ↦
          let found = blank_found after in
          begins_from P (0x5C ∷ text) p (LineEnd (take white text) (take count line) (take blank after)) (rw z at e) (
            last,
            ap (λ (t : List ℕ). 0x5C ∷ t) (spelled text white count blank),
            allowed (take white text) (take count line) (take blank after) (list_all-run is_ws text)
                (newline_found line z) found.0,
            found.1,
          )
    ]
  where
    spelled : (text : List ℕ) (white count blank : ℕ)
        → text ≡ (take white text ++ (take count (drop white text) ++ take blank (drop count (drop white text))))
        ++ drop blank (drop count (drop white text))
    spelled text white count blank =
        let line = drop white text in
        let after = drop count line in
        sym (append_assoc (take white text) (take count line ++ take blank after) (drop blank after)
        ∙ ap (λ t. take white text ++ t)
        (append_assoc (take count line) (take blank after) (drop blank after)
        ∙ ap (λ t. take count line ++ t) (take-append-drop blank after) ∙ take-append-drop count line)
        ∙ take-append-drop white text)

newline_not_white : (newline more : List ℕ) → Newline newline → is_ws (first (newline ++ more)) ≡ false
newline_not_white newline more (inl e) = rw e refl
newline_not_white newline more (inr e) = rw e refl

line_end_again : (before newline after more : List ℕ) → list_all is_ws before ≡ true → Newline newline
    → is_blank_run after ≡ true → blank_len more ≡ 0
    → line_end_at ((before ++ (newline ++ after)) ++ more) ≡ Some (LineEnd before newline after)
line_end_again before newline after more white line blank stop =
    let suffix = after ++ more in
    let split : (before ++ (newline ++ after)) ++ more ≡ before ++ (newline ++ suffix) =
    append_assoc before (newline ++ after) more ∙ ap (λ t. before ++ t) (append_assoc newline after more) in
    let some : (length newline == 0) ≡ false = let f = newline_some newline line in grind (arith, nat_tests) in
    rw (
      split,
      prefix_len-run is_ws before (newline ++ suffix) white refl (newline_not_white newline suffix line),
      drop_at before (newline ++ suffix) (length before) refl,
      newline_again newline suffix line,
      some,
      take_at before (newline ++ suffix) (length before) refl,
      take_at newline suffix (length newline) refl,
      drop_at newline suffix (length newline) refl,
      blank_again after more blank stop,
      take_at after more (length after) refl,
    ) refl

-- what comes after the backslash of a line end is no escape
line_end_no_escape : (profile : Profile) (before newline more : List ℕ) → list_all is_ws before ≡ true → Newline newline
    → escape_at profile (before ++ (newline ++ more)) ≡ None
line_end_no_escape profile [] newline more white (inl e) = rw e (blank_no_escape profile 0x0A more refl)
line_end_no_escape profile [] newline more white (inr e) = rw e (blank_no_escape profile 0x0D (0x0A ∷ more) refl)
line_end_no_escape profile (c ∷ before) newline more white line =
    let parts = and_parts (is_ws c) (list_all is_ws before) white in
    blank_no_escape profile c (before ++ (newline ++ more)) (rw parts.0 refl)

-- ---- strings over many lines

or_else_found : (a b : Option Piece) (p : Piece) → or_else a b ≡ Some p → (a ≡ Some p) ⊎ (b ≡ Some p)
or_else_found None b p e = inr e
or_else_found (Some q) b p e = inl e

pub ml_basic_laws : (profile : Profile) → PieceLaws (IsMlBasicPiece profile) (ml_basic_piece profile)
ml_basic_laws profile =
    record {
      found = found;
      again = again;
      some = some;
      plain = λ b h. (grind (arith, nat_tests), grind (arith, nat_tests));
      newline = λ n h. h;
    }
  where
    found : (text : List ℕ) (p : Piece) → ml_basic_piece profile text ≡ Some p → Begins (IsMlBasicPiece profile) text p
    found [] p e = absurd cc
    found (c ∷ cs) p e =
        elim (cases_Bool (c == 0x5C)) [
          | inl b ↦ elim (or_else_found (escape_at profile cs) (line_end_at cs) p (rw b at e)) [
            | inl g ↦
                let f = escape_found profile cs p g in
                (f.0, ap (λ (d : ℕ). d ∷ cs) (eqb-true c 0x5C b) ∙ f.1, escape_is_ml_basic profile p f.2, f.3)
            | inr g ↦
                let f = line_end_found (IsMlBasicPiece profile) cs p g (λ x y z k l m. (k, l, m)) in
                (f.0, ap (λ (d : ℕ). d ∷ cs) (eqb-true c 0x5C b) ∙ f.1, f.2, f.3)
          ]
          | inr b ↦ elim (cases_Bool (is_basic c || c == 0x22)) [
            | inl a ↦ begins_from (IsMlBasicPiece profile) (c ∷ cs) p (Plain c) (rw (b, a) at e) (cs, refl, a, tt)
            | inr a ↦ break_found (IsMlBasicPiece profile) (c ∷ cs) p (rw (b, a) at e) (λ n h. h)
          ]
        ]

    again : (p : Piece) (more : List ℕ) → IsMlBasicPiece profile p → Stops p more
        → ml_basic_piece profile (piece_text p ++ more) ≡ Some p
    again (Plain b) more h stops = let other : (b == 0x5C) ≡ false = grind (arith, nat_tests) in rw (other, h) refl
    again (Letter letter) more h stops = rw (letter_again profile letter more h) refl
    again (Number letter digits) more h stops = rw (number_again profile letter digits more h) refl
    again (Break n) more (inl e) stops = rw e refl
    again (Break n) more (inr e) stops = rw e refl
    again (LineEnd a b c) more h stops =
        let split : (a ++ (b ++ c)) ++ more ≡ a ++ (b ++ (c ++ more)) =
        append_assoc a (b ++ c) more ∙ ap (λ t. a ++ t) (append_assoc b c more) in
        let none : escape_at profile ((a ++ (b ++ c)) ++ more) ≡ None =
        ap (escape_at profile) split ∙ line_end_no_escape profile a b (c ++ more) h.0 h.1 in
        rw (none, line_end_again a b c more h.0 h.1 h.2 stops) refl

    some : (p : Piece) → IsMlBasicPiece profile p → 0 < length (piece_text p)
    some (Plain b) h = omega arith
    some (Letter letter) h = omega arith
    some (Number letter digits) h = omega arith
    some (Break n) h = newline_some n h
    some (LineEnd a b c) h = omega arith

pub ml_literal_laws : PieceLaws IsMlLiteralPiece ml_literal_piece
ml_literal_laws =
    record {
      found = found;
      again = again;
      some = some;
      plain = λ b h. (grind (arith, nat_tests), grind (arith, nat_tests));
      newline = λ n h. h;
    }
  where
    found : (text : List ℕ) (p : Piece) → ml_literal_piece text ≡ Some p → Begins IsMlLiteralPiece text p
    found [] p e = absurd cc
    found (c ∷ cs) p e =
        elim (cases_Bool (is_literal c || c == 0x27)) [
          | inl a ↦ begins_from IsMlLiteralPiece (c ∷ cs) p (Plain c) (rw a at e) (cs, refl, a, tt)
          | inr a ↦ break_found IsMlLiteralPiece (c ∷ cs) p (rw a at e) (λ n h. h)
        ]

    again : (p : Piece) (more : List ℕ) → IsMlLiteralPiece p → Stops p more
        → ml_literal_piece (piece_text p ++ more) ≡ Some p
    again (Plain b) more h stops = rw h refl
    again (Letter letter) more h stops = absurd h
    again (Number letter digits) more h stops = absurd h
    again (Break n) more (inl e) stops = rw e refl
    again (Break n) more (inr e) stops = rw e refl
    again (LineEnd a b c) more h stops = absurd h

    some : (p : Piece) → IsMlLiteralPiece p → 0 < length (piece_text p)
    some (Plain b) h = omega arith
    some (Letter letter) h = absurd h
    some (Number letter digits) h = absurd h
    some (Break n) h = newline_some n h
    some (LineEnd a b c) h = absurd h

pub ml_basic_marks : (profile : Profile) → MarkOrNot (IsMlBasicPiece profile) 0x22
ml_basic_marks profile (Plain b) h =
    elim (cases_Bool (b == 0x22)) [ inl e ↦ inl (ap Plain (eqb-true b 0x22 e)) | inr e ↦ inr (λ more. e) ]
ml_basic_marks profile (Letter letter) h = inr (λ more. refl)
ml_basic_marks profile (Number letter digits) h = inr (λ more. refl)
ml_basic_marks profile (Break n) (inl e) = inr (λ more. rw e refl)
ml_basic_marks profile (Break n) (inr e) = inr (λ more. rw e refl)
ml_basic_marks profile (LineEnd a b c) h = inr (λ more. refl)

pub ml_literal_marks : MarkOrNot IsMlLiteralPiece 0x27
ml_literal_marks (Plain b) h =
    elim (cases_Bool (b == 0x27)) [ inl e ↦ inl (ap Plain (eqb-true b 0x27 e)) | inr e ↦ inr (λ more. e) ]
ml_literal_marks (Letter letter) h = absurd h
ml_literal_marks (Number letter digits) h = absurd h
ml_literal_marks (Break n) (inl e) = inr (λ more. rw e refl)
ml_literal_marks (Break n) (inr e) = inr (λ more. rw e refl)
ml_literal_marks (LineEnd a b c) h = absurd h
