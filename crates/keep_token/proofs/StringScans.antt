-- What a scan of each kind of string meets on its way: runs, marks, newlines, backslashes, and where nothing continues.
--
-- The code looks at a string from left to right; the function on lists finds its pieces one by one. They are joined by
-- how far the body reaches from a place on (`basic_reach` and its like): this is the loop invariant, and a step does
-- not change it. There is one lemma for each step: a run of plain bytes (`.._run`), a piece with a length of its own
-- (`basic_escape`, `ml_basic_more`), the closing marks (`.._ends`), and a byte that nothing continues with
-- (`.._stops`). Over many lines up to five marks may come last, of which three close the string (`closed_many`,
-- `open_many`).
--
-- Theorems: `basic_ends` and `basic_stops`, and the same two of the other kinds: where the scan ends, its answer is the
-- string's.
use Rattle.std.proofs.Common.{◌≡◌, ℕ, zero, suc, ◌+◌, ◌-◌, ◌<◌, ◌≤◌, min, Bool, true, false, not, ◌==◌, List, [], ◌∷◌}
use Rattle.std.proofs.Common.{◌++◌, length, get_or, take, drop, Option, Some, None, refl, sym, ap, ◌∙◌, arith, inl, inr}
use Rattle.std.proofs.Common.{add-zero, get_or-drop, length-append, length-drop, eq-eqb}
use Rattle.std.specs.Prelude.{◌||◌, nat_le}
use Rattle.std.specs.List.{prefix_len}
use Rattle.std.proofs.lemmas.Bool.{and_parts, cases_lt, eqb-true, ne_eqb, le-leb, lt-leb}
use Rattle.std.proofs.lemmas.Bool.Decides.{nat_tests}
use Rattle.std.proofs.lemmas.List.{drop-drop, get_or_past, take_rest}
use Rattle.std.proofs.lemmas.List.Sums.{prefix_len_stops}
use Rattle.keep_types.specs.declared.leaf.Profile.{Profile}
use Rattle.keep_token.specs.Strings.{Piece, Plain, Break, piece_text, text_of, is_basic, is_literal, basic_text}
use Rattle.keep_token.specs.Strings.{literal_text, ml_basic_text, ml_literal_text}
use Rattle.keep_token.specs.Pieces.{first, escape_at, line_end_at, basic_piece, literal_piece, ml_basic_piece}
use Rattle.keep_token.specs.Pieces.{ml_literal_piece, some_of, closes, pieces_of, len_of, basic_at, literal_at}
use Rattle.keep_token.specs.Pieces.{ml_basic_at, ml_literal_at}
use Rattle.keep_token.specs.PieceLens.{piece_len}
use Rattle.keep_token.specs.Abnf.{is_comment}
use Rattle.keep_token.specs.Blocks.{is_plain}
use Rattle.keep_token.proofs.BlockLaws.{basic_or_line_feed, literal_or_line_feed}
use Rattle.keep_token.proofs.RunLaws.{tested}
use Rattle.keep_token.proofs.StringSteps.{PieceLaws}
use Rattle.keep_token.proofs.StringPieces.{basic_laws, literal_laws, ml_basic_laws, ml_literal_laws}
use Rattle.keep_token.proofs.Reaching.{TakesSome, IsPlain, end_of, reach, reach_closed, reach_none, reach_piece}
use Rattle.keep_token.proofs.Reaching.{reach_run}

takes_from : (P : Piece → Type 0) (piece : List ℕ → Option Piece) → PieceLaws P piece → TakesSome piece
takes_from P piece laws text p e =
    let found = laws.found text p e in
    let some = laws.some p found.2 in
    (some, omega (arith, ap length found.1, length-append (piece_text p) found.0, some))

basic_takes : (profile : Profile) → TakesSome (basic_piece profile)
basic_takes profile = takes_from _ _ (basic_laws profile)

literal_takes : TakesSome literal_piece
literal_takes = takes_from _ _ literal_laws

ml_basic_takes : (profile : Profile) → TakesSome (ml_basic_piece profile)
ml_basic_takes profile = takes_from _ _ (ml_basic_laws profile)

ml_literal_takes : TakesSome ml_literal_piece
ml_literal_takes = takes_from _ _ ml_literal_laws

-- ---- the first byte of the text from a place on

pub first_at : (bytes : List ℕ) (at : ℕ) → first (drop at bytes) ≡ get_or bytes at 0
first_at bytes at = get_or-drop at bytes 0 0 ∙ ap (λ i. get_or bytes i 0) (add-zero at)

-- a byte that is not 0 is within the text
pub occurs_within : (bytes : List ℕ) (at v : ℕ) → get_or bytes at 0 ≡ v → 0 < v → at < length bytes
occurs_within bytes at v e some =
    elim (cases_lt at (length bytes)) [
      | inl within ↦ within
      | inr past ↦ absurd (omega (arith, get_or_past bytes at 0 past))
    ]

-- the length of the rest from a place on
pub length-rest : (bytes : List ℕ) (at : ℕ) → at ≤ length bytes
    → length (take (length bytes - at) (drop at bytes)) + at ≡ length bytes
length-rest bytes at h = omega (arith, ap length (take_rest bytes at), length-drop at bytes)

-- the byte after a run is not of its class
pub after_run : (class : ℕ → Bool) → class 0 ≡ false → (bytes : List ℕ) (at n : ℕ)
    → n ≡ prefix_len class (drop at bytes) → class (get_or bytes (at + n) 0) ≡ false
after_run class none bytes at n e =
    elim (cases_lt n (length (drop at bytes))) [
      | inl within ↦
          let stops = prefix_len_stops class (drop at bytes) 0 (omega arith) in
          ap class (sym (get_or-drop at bytes n 0)) ∙ ap (λ i. class (get_or (drop at bytes) i 0)) e ∙ stops
      | inr past ↦ ap class (get_or_past bytes (at + n) 0 (omega (arith, length-drop at bytes))) ∙ none
    ]

-- ---- the length of what is found

len_found : (spelled : List Piece → List ℕ) (from extra : ℕ)
    → ((ps : List Piece) → length (spelled ps) ≡ from + length (text_of ps) + extra) → (o : Option (List Piece)) (n : ℕ)
    → end_of from o ≡ Some n → len_of spelled o ≡ Some (n + extra)
unfolding end_of
len_found spelled from extra len None n e = absurd cc
len_found spelled from extra len (Some ps) n e =
    let n' : from + length (text_of ps) ≡ n = cc in
    ap (λ (m : ℕ). Some m) (len ps ∙ ap (λ m. m + extra) n')

len_none : (spelled : List Piece → List ℕ) (from : ℕ) (o : Option (List Piece)) → end_of from o ≡ None
    → len_of spelled o ≡ None
unfolding end_of
len_none spelled from None e = refl
len_none spelled from (Some ps) e = absurd cc

len_one : (mark : ℕ) (ps : List Piece) → length (mark ∷ text_of ps ++ (mark ∷ [])) ≡ 1 + length (text_of ps) + 1
len_one mark ps = omega (arith, length-append (text_of ps) (mark ∷ []))

len_three : (mark : ℕ) (ps : List Piece)
    → length (mark ∷ mark ∷ mark ∷ text_of ps ++ (mark ∷ mark ∷ mark ∷ [])) ≡ 3 + length (text_of ps) + 3
len_three mark ps = omega (arith, length-append (text_of ps) (mark ∷ mark ∷ mark ∷ []))

-- ---- the closing

closed_one : (mark : ℕ) (bytes : List ℕ) (at : ℕ) → get_or bytes at 0 ≡ mark
    → closes false mark (drop at bytes) ≡ Some []
closed_one mark bytes at h =
    let f : (first (drop at bytes) == mark) ≡ true = eq-eqb (first (drop at bytes)) mark (first_at bytes at ∙ h) in
    rw f refl

open_one : (mark : ℕ) (bytes : List ℕ) (at : ℕ) → (get_or bytes at 0 ≡ mark → ⊥)
    → closes false mark (drop at bytes) ≡ None
open_one mark bytes at h =
    let f : (first (drop at bytes) == mark) ≡ false =
    ne_eqb (first (drop at bytes)) mark (λ e. h (sym (first_at bytes at) ∙ e)) in
    rw f refl

abbrev pub marks : ℕ → List ℕ → ℕ
marks mark text = prefix_len (λ c. c == mark) text

closed_many : (mark : ℕ) (text : List ℕ) (n : ℕ) → n ≡ marks mark text → 3 ≤ n
    → closes true mark text ≡ Some (some_of (min n 5 - 3) mark)
closed_many mark text n e h =
    let f : nat_le 3 (marks mark text) ≡ true = le-leb 3 (marks mark text) (omega arith) in
    rw (e, f) refl

open_many : (mark : ℕ) (text : List ℕ) (n : ℕ) → n ≡ marks mark text → n < 3 → closes true mark text ≡ None
open_many mark text n e h =
    let f : nat_le 3 (marks mark text) ≡ false = lt-leb 3 (marks mark text) (omega arith) in
    rw f refl

length-marks : (n mark : ℕ) → length (text_of (some_of n mark)) ≡ n
length-marks zero mark = refl
length-marks (suc n) mark = omega (arith, length-marks n mark)

-- ---- basic strings

not_quote : (c : ℕ) → is_basic c ≡ true → (c == 0x22) ≡ false
not_quote c e = grind (arith, nat_tests)

not_backslash : (c : ℕ) → is_basic c ≡ true → (c == 0x5C) ≡ false
not_backslash c e = grind (arith, nat_tests)

basic_plain : (profile : Profile) → IsPlain (basic_piece profile) false 0x22 is_basic
basic_plain profile = record {
  still = λ c cs e. let f = not_quote c e in rw f refl;
  plain = λ c cs e. let f = not_backslash c e in (Plain c, rw (f, e) refl, refl);
}

-- how far the body of a basic string reaches from a place on
pub basic_reach : Profile → List ℕ → ℕ → Option ℕ
basic_reach profile bytes at = reach (basic_piece profile) false 0x22 bytes at

pub basic_run : (profile : Profile) (bytes : List ℕ) (at n : ℕ) → n ≡ prefix_len is_basic (drop at bytes)
    → basic_reach profile bytes at ≡ basic_reach profile bytes (at + n)
unfolding basic_reach
basic_run profile bytes at n e =
    reach_run (basic_piece profile) (basic_takes profile) false 0x22 is_basic (basic_plain profile) bytes at n
    (omega arith)

pub basic_ends : (profile : Profile) (bytes : List ℕ) (at : ℕ) → get_or bytes at 0 ≡ 0x22
    → basic_reach profile bytes 1 ≡ basic_reach profile bytes at → basic_at profile bytes ≡ Some (at + 1)
unfolding basic_reach
basic_ends profile bytes at quote preserved =
    let here =
    reach_closed (basic_piece profile) (basic_takes profile) false 0x22 bytes at [] (closed_one 0x22 bytes at quote) in
    len_found basic_text 1 1 (len_one 0x22)
    (pieces_of (basic_piece profile) false 0x22 (drop 1 bytes)) at (preserved ∙ here
    ∙ ap (λ (n : ℕ). Some n) (add-zero at))

basic_fails : (profile : Profile) (bytes : List ℕ) (at : ℕ) → (get_or bytes at 0 ≡ 0x22 → ⊥)
    → basic_piece profile (drop at bytes) ≡ None → basic_reach profile bytes 1 ≡ basic_reach profile bytes at
    → basic_at profile bytes ≡ None
unfolding basic_reach
basic_fails profile bytes at quote none preserved =
    let here =
    reach_none (basic_piece profile) (basic_takes profile) false 0x22 bytes at (open_one 0x22 bytes at quote) none in
    len_none basic_text 1 (pieces_of (basic_piece profile) false 0x22 (drop 1 bytes)) (preserved ∙ here)

basic_backslash : (profile : Profile) (bytes : List ℕ) (at : ℕ) → get_or bytes at 0 ≡ 0x5C
    → basic_piece profile (drop at bytes) ≡ escape_at profile (drop (at + 1) bytes)
basic_backslash profile bytes at h =
    let f : (first (drop at bytes) == 0x5C) ≡ true = eq-eqb (first (drop at bytes)) 0x5C (first_at bytes at ∙ h) in
    rw f (ap (escape_at profile) (drop-drop 1 at bytes))

pub basic_escape : (profile : Profile) (bytes : List ℕ) (at n : ℕ) (p : Piece) → get_or bytes at 0 ≡ 0x5C
    → escape_at profile (drop (at + 1) bytes) ≡ Some p → n ≡ length (piece_text p)
    → basic_reach profile bytes at ≡ basic_reach profile bytes (at + n)
unfolding basic_reach
basic_escape profile bytes at n p h e len =
    reach_piece (basic_piece profile) (basic_takes profile) false 0x22 bytes at n p
    (open_one 0x22 bytes at (λ q. absurd (omega arith))) (basic_backslash profile bytes at h ∙ e) len

pub basic_no_escape : (profile : Profile) (bytes : List ℕ) (at : ℕ) → get_or bytes at 0 ≡ 0x5C
    → escape_at profile (drop (at + 1) bytes) ≡ None → basic_reach profile bytes 1 ≡ basic_reach profile bytes at
    → basic_at profile bytes ≡ None
basic_no_escape profile bytes at h e preserved =
    basic_fails profile bytes at (λ q. absurd (omega arith)) (basic_backslash profile bytes at h ∙ e) preserved

pub basic_stops : (profile : Profile) (bytes : List ℕ) (at : ℕ) → (get_or bytes at 0 ≡ 0x22 → ⊥)
    → (get_or bytes at 0 ≡ 0x5C → ⊥) → is_basic (get_or bytes at 0) ≡ false
    → basic_reach profile bytes 1 ≡ basic_reach profile bytes at → basic_at profile bytes ≡ None
basic_stops profile bytes at quote backslash plain preserved =
    let f : (first (drop at bytes) == 0x5C) ≡ false =
    ne_eqb (first (drop at bytes)) 0x5C (λ e. backslash (sym (first_at bytes at) ∙ e)) in
    let g : is_basic (first (drop at bytes)) ≡ false = ap is_basic (first_at bytes at) ∙ plain in
    basic_fails profile bytes at quote (rw (f, g) refl) preserved

-- ---- literal strings

not_apostrophe : (c : ℕ) → is_literal c ≡ true → (c == 0x27) ≡ false
not_apostrophe c e = grind (arith, nat_tests)

literal_plain : IsPlain literal_piece false 0x27 is_literal
literal_plain = record {
  still = λ c cs e. let f = not_apostrophe c e in rw f refl;
  plain = λ c cs e. (Plain c, rw e refl, refl);
}

literal_run : (bytes : List ℕ) (n : ℕ) → n ≡ prefix_len is_literal (drop 1 bytes)
    → reach literal_piece false 0x27 bytes 1 ≡ reach literal_piece false 0x27 bytes (1 + n)
literal_run bytes n e =
    reach_run literal_piece literal_takes false 0x27 is_literal literal_plain bytes 1 n (omega arith)

pub literal_ends : (bytes : List ℕ) (n : ℕ) → n ≡ prefix_len is_literal (drop 1 bytes) → get_or bytes (1 + n) 0 ≡ 0x27
    → literal_at bytes ≡ Some (1 + n + 1)
literal_ends bytes n e quote =
    let here =
    reach_closed literal_piece literal_takes false 0x27 bytes (1 + n) [] (closed_one 0x27 bytes (1 + n) quote) in
    len_found literal_text 1 1 (len_one 0x27) (pieces_of literal_piece false 0x27 (drop 1 bytes)) (1 + n)
    (literal_run bytes n e ∙ here ∙ ap (λ (m : ℕ). Some m) (add-zero (1 + n)))

pub literal_stops : (bytes : List ℕ) (n : ℕ) → n ≡ prefix_len is_literal (drop 1 bytes)
    → (get_or bytes (1 + n) 0 ≡ 0x27 → ⊥) → literal_at bytes ≡ None
literal_stops bytes n e quote =
    let g : is_literal (first (drop (1 + n) bytes)) ≡ false =
    ap is_literal (first_at bytes (1 + n)) ∙ after_run is_literal refl bytes 1 n e in
    let none : literal_piece (drop (1 + n) bytes) ≡ None = rw g refl in
    let here =
    reach_none literal_piece literal_takes false 0x27 bytes (1 + n) (open_one 0x27 bytes (1 + n) quote) none in
    len_none literal_text 1 (pieces_of literal_piece false 0x27 (drop 1 bytes)) (literal_run bytes n e ∙ here)

-- ---- a piece that is found by its length

piece_len_some : (o : Option Piece) (n : ℕ) → piece_len o ≡ Some n
    → (p : Piece) × (o ≡ Some p) × (n ≡ length (piece_text p))
piece_len_some None n e = absurd cc
piece_len_some (Some p) n e = (p, refl, cc)

piece_len_none : (o : Option Piece) → piece_len o ≡ None → o ≡ None
piece_len_none None e = refl
piece_len_none (Some p) e = absurd cc

many_plain : (piece : List ℕ → Option Piece) (mark : ℕ) (class : ℕ → Bool)
    → ((c : ℕ) → class c ≡ true → (c == mark) ≡ false)
    → ((c : ℕ) (cs : List ℕ) → class c ≡ true → (p : Piece) × (piece (c ∷ cs) ≡ Some p) × (length (piece_text p) ≡ 1))
    → IsPlain piece true mark class
many_plain piece mark class not_mark plain = record {
  still = λ c cs e. let f = not_mark c e in rw f refl;
  plain = plain;
}

-- a byte that is plain beside two marks is not the first of them
no_mark : (also a b c : ℕ) → is_plain also a b c ≡ true → (c == a) ≡ false
no_mark also a b c e =
    elim (tested (c == a)) [
      | inl f ↦
          absurd (let never = (and_parts (is_comment c || c == also) (not (c == a || c == b)) e).1 in
          let no = rw f at never in cc)
      | inr f ↦ f
    ]

-- ---- basic strings over many lines

-- a backslash that begins no escape may end a line
pub ml_basic_line_end : (profile : Profile) (text : List ℕ) → get_or text 0 0 ≡ 0x5C
    → escape_at profile (drop 1 text) ≡ None → ml_basic_piece profile text ≡ line_end_at (drop 1 text)
ml_basic_line_end profile text h none =
    let f : (first text == 0x5C) ≡ true = eq-eqb (first text) 0x5C h in
    rw (f, none) refl

ml_basic_plain : (profile : Profile) → IsPlain (ml_basic_piece profile) true 0x22 (is_plain 0x0A 0x22 0x5C)
ml_basic_plain profile =
    many_plain (ml_basic_piece profile) 0x22 (is_plain 0x0A 0x22 0x5C) (λ c e. no_mark 0x0A 0x22 0x5C c e)
    (λ c cs e. elim (tested (c == 0x0A)) [
      | inl f ↦ rw (eqb-true c 0x0A f) (Break (0x0A ∷ []), refl, refl)
      | inr f ↦ let basic =
          basic_or_line_feed c f e in let g = not_backslash c basic in (Plain c, rw (g, basic) refl, refl)
    ])

-- how far the body of a basic string over many lines reaches from a place on
pub ml_basic_reach : Profile → List ℕ → ℕ → Option ℕ
ml_basic_reach profile bytes at = reach (ml_basic_piece profile) true 0x22 bytes at

pub ml_basic_run : (profile : Profile) (bytes : List ℕ) (at n : ℕ)
    → n ≤ prefix_len (is_plain 0x0A 0x22 0x5C) (drop at bytes)
    → ml_basic_reach profile bytes at ≡ ml_basic_reach profile bytes (at + n)
unfolding ml_basic_reach
ml_basic_run profile bytes at n e =
    reach_run (ml_basic_piece profile) (ml_basic_takes profile) true 0x22 (is_plain 0x0A 0x22 0x5C)
    (ml_basic_plain profile) bytes at n e

pub ml_basic_ends : (profile : Profile) (bytes : List ℕ) (at n : ℕ) → n ≡ marks 0x22 (drop at bytes) → 3 ≤ n
    → ml_basic_reach profile bytes 3 ≡ ml_basic_reach profile bytes at → ml_basic_at profile bytes ≡ Some (at + min n 5)
unfolding ml_basic_reach
ml_basic_ends profile bytes at n e some preserved =
    let k = min n 5 - 3 in
    let here =
    reach_closed (ml_basic_piece profile) (ml_basic_takes profile) true 0x22 bytes at (some_of k 0x22)
    (closed_many 0x22 (drop at bytes) n e some) in
    len_found ml_basic_text 3 3 (len_three 0x22) (pieces_of (ml_basic_piece profile) true 0x22 (drop 3 bytes)) (at + k)
    (preserved ∙ here ∙ ap (λ m. Some (at + m)) (length-marks k 0x22))
    ∙ ap (λ (m : ℕ). Some m) (omega arith)

pub ml_basic_more : (profile : Profile) (bytes : List ℕ) (at n k : ℕ) → n ≡ marks 0x22 (drop at bytes) → n < 3
    → piece_len (ml_basic_piece profile (drop at bytes)) ≡ Some k
    → ml_basic_reach profile bytes at ≡ ml_basic_reach profile bytes (at + k)
unfolding ml_basic_reach
ml_basic_more profile bytes at n k e few found =
    let p = piece_len_some (ml_basic_piece profile (drop at bytes)) k found in
    reach_piece (ml_basic_piece profile) (ml_basic_takes profile) true 0x22 bytes at k p.0
    (open_many 0x22 (drop at bytes) n e few) p.1 p.2

pub ml_basic_stops : (profile : Profile) (bytes : List ℕ) (at n : ℕ) → n ≡ marks 0x22 (drop at bytes) → n < 3
    → piece_len (ml_basic_piece profile (drop at bytes)) ≡ None
    → ml_basic_reach profile bytes 3 ≡ ml_basic_reach profile bytes at → ml_basic_at profile bytes ≡ None
unfolding ml_basic_reach
ml_basic_stops profile bytes at n e few none preserved =
    let here =
    reach_none (ml_basic_piece profile) (ml_basic_takes profile) true 0x22
    bytes at (open_many 0x22 (drop at bytes) n e few) (piece_len_none (ml_basic_piece profile (drop at bytes)) none) in
    len_none ml_basic_text 3 (pieces_of (ml_basic_piece profile) true 0x22 (drop 3 bytes)) (preserved ∙ here)

-- ---- literal strings over many lines

ml_literal_plain : IsPlain ml_literal_piece true 0x27 (is_plain 0x0A 0x27 0x27)
ml_literal_plain =
    many_plain ml_literal_piece 0x27 (is_plain 0x0A 0x27 0x27) (λ c e. no_mark 0x0A 0x27 0x27 c e)
    (λ c cs e. elim (tested (c == 0x0A)) [
      | inl f ↦ rw (eqb-true c 0x0A f) (Break (0x0A ∷ []), refl, refl)
      | inr f ↦ let literal = literal_or_line_feed c f e in (Plain c, rw literal refl, refl)
    ])

-- how far the body of a literal string over many lines reaches from a place on
pub ml_literal_reach : List ℕ → ℕ → Option ℕ
ml_literal_reach bytes at = reach ml_literal_piece true 0x27 bytes at

pub ml_literal_run : (bytes : List ℕ) (at n : ℕ) → n ≤ prefix_len (is_plain 0x0A 0x27 0x27) (drop at bytes)
    → ml_literal_reach bytes at ≡ ml_literal_reach bytes (at + n)
unfolding ml_literal_reach
ml_literal_run bytes at n e =
    reach_run ml_literal_piece ml_literal_takes true 0x27 (is_plain 0x0A 0x27 0x27) ml_literal_plain bytes at n e

pub ml_literal_ends : (bytes : List ℕ) (at n : ℕ) → n ≡ marks 0x27 (drop at bytes) → 3 ≤ n
    → ml_literal_reach bytes 3 ≡ ml_literal_reach bytes at → ml_literal_at bytes ≡ Some (at + min n 5)
unfolding ml_literal_reach
ml_literal_ends bytes at n e some preserved =
    let k = min n 5 - 3 in
    let here =
    reach_closed ml_literal_piece ml_literal_takes true 0x27 bytes at (some_of k 0x27)
    (closed_many 0x27 (drop at bytes) n e some) in
    len_found ml_literal_text 3 3 (len_three 0x27) (pieces_of ml_literal_piece true 0x27 (drop 3 bytes)) (at + k)
    (preserved ∙ here ∙ ap (λ m. Some (at + m)) (length-marks k 0x27))
    ∙ ap (λ (m : ℕ). Some m) (omega arith)

pub ml_literal_more : (bytes : List ℕ) (at n k : ℕ) → n ≡ marks 0x27 (drop at bytes) → n < 3
    → piece_len (ml_literal_piece (drop at bytes)) ≡ Some k
    → ml_literal_reach bytes at ≡ ml_literal_reach bytes (at + k)
unfolding ml_literal_reach
ml_literal_more bytes at n k e few found =
    let p = piece_len_some (ml_literal_piece (drop at bytes)) k found in
    reach_piece ml_literal_piece ml_literal_takes true 0x27 bytes at k p.0 (open_many 0x27 (drop at bytes) n e few) p.1
    p.2

pub ml_literal_stops : (bytes : List ℕ) (at n : ℕ) → n ≡ marks 0x27 (drop at bytes) → n < 3
    → piece_len (ml_literal_piece (drop at bytes)) ≡ None
    → ml_literal_reach bytes 3 ≡ ml_literal_reach bytes at → ml_literal_at bytes ≡ None
unfolding ml_literal_reach
ml_literal_stops bytes at n e few none preserved =
    let here =
    reach_none ml_literal_piece ml_literal_takes true 0x27 bytes at (open_many 0x27 (drop at bytes) n e few)
    (piece_len_none (ml_literal_piece (drop at bytes)) none) in
    len_none ml_literal_text 3 (pieces_of ml_literal_piece true 0x27 (drop 3 bytes)) (preserved ∙ here)
