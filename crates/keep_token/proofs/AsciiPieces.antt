-- Escapes and line-ending backslashes are ASCII, so that a text may be cut after them.
--
-- Theorems: `number_piece_ascii`: an escape with digits is ASCII; `line_end_ascii`: so is a line-ending backslash with
-- the blanks after it; `cut_after`: a text may be cut after ASCII.
use Rattle.std.proofs.Common.{◌≡◌, ℕ, zero, suc, ◌<◌, true, ◌||◌, ◌==◌, List, [], ◌∷◌, ◌++◌, length, take, refl, sym}
use Rattle.std.proofs.Common.{ap, ◌∙◌, subst, arith, inl, inr, take_at, length-append}
use Rattle.std.specs.List.{list_all}
use Rattle.std.specs.Char.{is_digit}
use Rattle.std.specs.Str.{IsUtf8, IsAscii, IsCharBoundary}
use Rattle.std.proofs.lemmas.Bool.{cases_Bool, and_parts}
use Rattle.std.proofs.lemmas.Bool.Decides.{nat_tests}
use Rattle.std.proofs.lemmas.Str.{IsAscii-append, IsUtf8-from_ascii, IsCharBoundary-from_take, IsCharBoundary-at_seam}
use Rattle.keep_types.specs.declared.leaf.Profile.TheVariants.{Wide}
use Rattle.keep_token.specs.Abnf.{is_ws, Newline}
use Rattle.keep_token.specs.Strings.{Letter, Number, LineEnd, piece_text, letter_value, digit_count, is_blank_run}
use Rattle.keep_token.specs.Strings.{IsMlBasicPiece}

pub ascii_none : IsAscii []
ascii_none i = omega arith

pub ascii_more : (c : ℕ) (cs : List ℕ) → c < 128 → IsAscii cs → IsAscii (c ∷ cs)
ascii_more c cs h more zero = h
ascii_more c cs h more (suc i) = more i

letter_ascii : (c : ℕ) → 0 < letter_value Wide c → c < 128
letter_ascii c h = grind (arith, nat_tests)

count_ascii : (c : ℕ) → 0 < digit_count Wide c → c < 128
count_ascii c h = grind (arith, nat_tests)

digit_ascii : (c : ℕ) → is_digit c 16 ≡ true → c < 128
digit_ascii c h = grind (arith, nat_tests)

digits_ascii : (cs : List ℕ) → list_all (λ c. is_digit c 16) cs ≡ true → IsAscii cs
digits_ascii [] h = ascii_none
digits_ascii (c ∷ cs) h =
    let parts = and_parts (is_digit c 16) (list_all (λ d. is_digit d 16) cs) h in
    ascii_more c cs (digit_ascii c parts.0) (digits_ascii cs parts.1)

white_below : (c : ℕ) → is_ws c ≡ true → c < 128
white_below c h = grind (arith, nat_tests)

white_ascii : (cs : List ℕ) → list_all is_ws cs ≡ true → IsAscii cs
white_ascii [] h = ascii_none
white_ascii (c ∷ cs) h =
    let parts = and_parts (is_ws c) (list_all is_ws cs) h in
    ascii_more c cs (white_below c parts.0) (white_ascii cs parts.1)

pub newline_ascii : (cs : List ℕ) → Newline cs → IsAscii cs
newline_ascii cs (inl e) = subst IsAscii (sym e) (ascii_more 0x0A [] (omega arith) ascii_none)
newline_ascii cs (inr e) =
    subst IsAscii (sym e) (ascii_more 0x0D (0x0A ∷ []) (omega arith) (ascii_more 0x0A [] (omega arith) ascii_none))

blank_below : (c : ℕ) → (is_ws c || c == 0x0A) ≡ true → c < 128
blank_below c h = grind (arith, nat_tests)

equal_below : (c d : ℕ) → (c == d) ≡ true → d < 128 → c < 128
equal_below c d h below = grind (arith, nat_tests)

blank_ascii : (cs : List ℕ) → is_blank_run cs ≡ true → IsAscii cs
blank_ascii [] h = ascii_none
blank_ascii (c ∷ []) h = ascii_more c [] (blank_below c h) ascii_none
blank_ascii (c ∷ d ∷ cs) h =
    elim (cases_Bool (c == 0x0D)) [
      | inl e ↦
          let parts = and_parts (d == 0x0A) (is_blank_run cs) (rw e at h) in
          ascii_more c (d ∷ cs) (equal_below c 0x0D e (omega arith))
          (ascii_more d cs (equal_below d 0x0A parts.0 (omega arith)) (blank_ascii cs parts.1))
      | inr e ↦
          let parts = and_parts (is_ws c || c == 0x0A) (is_blank_run (d ∷ cs)) (rw e at h) in
          ascii_more c (d ∷ cs) (blank_below c parts.0) (blank_ascii (d ∷ cs) parts.1)
    ]

pub letter_piece_ascii : (c : ℕ) → IsMlBasicPiece Wide (Letter c) → IsAscii (piece_text (Letter c))
letter_piece_ascii c h = ascii_more 0x5C (c ∷ []) (omega arith) (ascii_more c [] (letter_ascii c h) ascii_none)

pub number_piece_ascii : (c : ℕ) (ds : List ℕ) → IsMlBasicPiece Wide (Number c ds) → IsAscii (piece_text (Number c ds))
number_piece_ascii c ds h =
    ascii_more 0x5C (c ∷ ds) (omega arith) (ascii_more c ds (count_ascii c h.0) (digits_ascii ds h.2))

pub line_end_ascii : (a b c : List ℕ) → IsMlBasicPiece Wide (LineEnd a b c) → IsAscii (piece_text (LineEnd a b c))
line_end_ascii a b c h =
    ascii_more 0x5C (a ++ (b ++ c)) (omega arith)
    (IsAscii-append a (b ++ c) (white_ascii a h.0) (IsAscii-append b c (newline_ascii b h.1) (blank_ascii c h.2)))

-- a text may be cut after ASCII
pub cut_after : (text prefix rest : List ℕ) → text ≡ prefix ++ rest → IsUtf8 text → IsAscii prefix
    → IsCharBoundary text (length prefix)
cut_after text prefix rest e u ascii =
    let same : take (length prefix) text ≡ prefix =
    ap (take (length prefix)) e ∙ take_at prefix rest (length prefix) refl in
    IsCharBoundary-from_take text (length prefix) u (omega (arith, ap length e, length-append prefix rest))
    (subst IsUtf8 (sym same) (IsUtf8-from_ascii prefix ascii))

-- and before it
pub cut_before : (text prefix back : List ℕ) → text ≡ prefix ++ back → IsAscii back
    → IsCharBoundary text (length prefix)
cut_before text prefix back e ascii = IsCharBoundary-at_seam text prefix back e (IsUtf8-from_ascii back ascii)
