-- What a string means by its pieces is what is read from its text from the left to the right.
--
-- By induction over the pieces (`unescaped`): a plain byte is read as itself, an escape as the character that it names
-- (`letter_read`, `number_read`), and a backslash at a line's end takes all blanks after it, since the piece that
-- follows begins with none (`no_more_blank`). Over many lines the first newline is left out (`ml_basic_read`). The text
-- between the quotation marks is found by their number (`one_between`, `three_between`).
--
-- Theorem: `means_value`.
use Rattle.std.proofs.Common.{◌≡◌, ℕ, ◌-◌, ◌<◌, Bool, true, false, not, ◌||◌, ◌==◌, IsTrue, List, [], ◌∷◌, ◌++◌, length}
use Rattle.std.proofs.Common.{refl, sym, ap, ◌∙◌, arith, inl, inr, length-append, take_at}
use Rattle.std.specs.Prelude.{slice_index, encode_utf8}
use Rattle.std.specs.List.{prefix_len, list_all}
use Rattle.std.proofs.lemmas.Bool.{cases_Bool, and_parts}
use Rattle.std.proofs.lemmas.Bool.Decides.{nat_tests}
use Rattle.std.proofs.lemmas.List.Folds.{list_all-append}
use Rattle.keep_types.specs.declared.leaf.Profile.TheVariants.{Wide}
use Rattle.keep_types.specs.declared.leaf.Leaf.{Leaf}
use Rattle.keep_types.specs.declared.leaf.Leaf.TheVariants as leaf
use Rattle.keep_token.specs.Abnf.{is_ws, Newline}
use Rattle.keep_token.specs.Numbers.{sum_of_digits}
use Rattle.keep_token.specs.Strings.{Piece, Plain, Letter, Number, Break, LineEnd, text_of, value_of, ml_value_of}
use Rattle.keep_token.specs.Strings.{letter_value, digit_count, is_basic, is_literal, is_blank_run, Each}
use Rattle.keep_token.specs.Strings.{IsMlBasicPiece, IsMlLiteralPiece, takes_all}
use Rattle.keep_token.specs.Leaves.{Means, is_string_leaf}
use Rattle.keep_token.proofs.Shared.{literal_value, ml_literal_value, basic_body, takes_all_rest}
use Rattle.keep_meaning.specs.Meaning.{is_blank_byte, escape_length, escape_value, unescaped_text, without_newline}
use Rattle.keep_meaning.specs.Meaning.{between_marks, string_value}

-- ---- escapes

passed : (bs rest : List ℕ) → unescaped_text (length bs) (bs ++ rest) ≡ unescaped_text 0 rest
passed [] rest = refl
passed (b ∷ bs) rest = passed bs rest

escape_read : (cs value : List ℕ) (n : ℕ) → escape_value cs ≡ value → escape_length cs ≡ n
    → unescaped_text 0 (0x5C ∷ cs) ≡ value ++ unescaped_text n cs
escape_read cs value n e f =
    ap (λ v. v ++ unescaped_text (escape_length cs) cs) e ∙ ap (λ k. value ++ unescaped_text k cs) f

letter_no_blank : (c : ℕ) → 0 < letter_value Wide c → is_blank_byte c ≡ false
letter_no_blank c h = grind (arith, nat_tests)

letter_no_digits : (c : ℕ) → 0 < letter_value Wide c → digit_count Wide c ≡ 0
letter_no_digits c h = grind (arith, nat_tests)

letter_read : (c : ℕ) (rest : List ℕ) → 0 < letter_value Wide c
    → unescaped_text 0 (0x5C ∷ c ∷ rest) ≡ letter_value Wide c ∷ unescaped_text 0 rest
letter_read c rest h =
    escape_read (c ∷ rest) (letter_value Wide c ∷ []) 1 (rw (letter_no_blank c h, letter_no_digits c h) refl)
    (rw (letter_no_blank c h, letter_no_digits c h) refl)

number_no_blank : (c : ℕ) → 0 < digit_count Wide c → is_blank_byte c ≡ false
number_no_blank c h = grind (arith, nat_tests)

some_digits : (n : ℕ) → 0 < n → (n == 0) ≡ false
some_digits n h = grind (arith, nat_tests)

number_read : (c : ℕ) (digits rest : List ℕ) → 0 < digit_count Wide c → length digits ≡ digit_count Wide c
    → unescaped_text 0 (0x5C ∷ c ∷ digits ++ rest) ≡ encode_utf8 (sum_of_digits 16 digits) ++ unescaped_text 0 rest
number_read c digits rest h len =
    let value : escape_value (c ∷ digits ++ rest) ≡ encode_utf8 (sum_of_digits 16 digits) =
    rw (number_no_blank c h, some_digits (digit_count Wide c) h, take_at digits rest (digit_count Wide c) len) refl in
    let size : escape_length (c ∷ digits ++ rest) ≡ length (c ∷ digits) =
    rw (number_no_blank c h) (omega (arith, len)) in
    escape_read (c ∷ digits ++ rest) (encode_utf8 (sum_of_digits 16 digits)) (length (c ∷ digits)) value size
    ∙ ap (λ t. encode_utf8 (sum_of_digits 16 digits) ++ t) (passed (c ∷ digits) rest)

-- ---- line-ending backslashes

blank_prefix : (bs rest : List ℕ) → list_all is_blank_byte bs ≡ true → prefix_len is_blank_byte rest ≡ 0
    → prefix_len is_blank_byte (bs ++ rest) ≡ length bs
blank_prefix [] rest h stops = stops
blank_prefix (b ∷ bs) rest h stops =
    let parts = and_parts (is_blank_byte b) (list_all is_blank_byte bs) h in
    rw parts.0 (omega (arith, blank_prefix bs rest parts.1 stops))

blanks_read : (bs rest : List ℕ) → 0 < length bs → list_all is_blank_byte bs ≡ true → prefix_len is_blank_byte rest ≡ 0
    → unescaped_text 0 (0x5C ∷ bs ++ rest) ≡ unescaped_text 0 rest
blanks_read [] rest some h stops = absurd (omega (arith, some))
blanks_read (b ∷ bs) rest some h stops =
    let parts = and_parts (is_blank_byte b) (list_all is_blank_byte bs) h in
    let size : escape_length (b ∷ bs ++ rest) ≡ length (b ∷ bs) =
    rw parts.0 (omega (arith, blank_prefix bs rest parts.1 stops)) in
    escape_read (b ∷ bs ++ rest) [] (length (b ∷ bs)) (rw parts.0 refl) size ∙ passed (b ∷ bs) rest

ws_blank : (bs : List ℕ) → list_all is_ws bs ≡ true → list_all is_blank_byte bs ≡ true
ws_blank [] h = refl
ws_blank (b ∷ bs) h = let parts = and_parts (is_ws b) (list_all is_ws bs) h in rw (parts.0, ws_blank bs parts.1) refl

blank_one : (c : ℕ) → (is_ws c || c == 0x0A) ≡ true → is_blank_byte c ≡ true
blank_one c h = grind (arith, nat_tests)

return_blank : (c : ℕ) → (c == 0x0D) ≡ true → is_blank_byte c ≡ true
return_blank c h = grind (arith, nat_tests)

feed_blank : (c : ℕ) → (c == 0x0A) ≡ true → is_blank_byte c ≡ true
feed_blank c h = grind (arith, nat_tests)

run_blank : (bs : List ℕ) → is_blank_run bs ≡ true → list_all is_blank_byte bs ≡ true
run_blank [] h = refl
run_blank (c ∷ []) h = rw (blank_one c h) refl
run_blank (c ∷ d ∷ cs) h =
    elim (cases_Bool (c == 0x0D)) [
      | inl cr ↦
          let parts = and_parts (d == 0x0A) (is_blank_run cs) (rw cr at h) in
          rw (return_blank c cr, feed_blank d parts.0, run_blank cs parts.1) refl
      | inr cr ↦
          let parts = and_parts (is_ws c || c == 0x0A) (is_blank_run (d ∷ cs)) (rw cr at h) in
          rw (blank_one c parts.0) (run_blank (d ∷ cs) parts.1)
    ]

newline_blank : (newline : List ℕ) → Newline newline → list_all is_blank_byte newline ≡ true
newline_blank newline (inl e) = rw e refl
newline_blank newline (inr e) = rw e refl

newline_some : (newline : List ℕ) → Newline newline → 0 < length newline
newline_some newline (inl e) = omega (arith, ap length e)
newline_some newline (inr e) = omega (arith, ap length e)

all_blank : (before newline after : List ℕ) → IsMlBasicPiece Wide (LineEnd before newline after)
    → list_all is_blank_byte (before ++ (newline ++ after)) ≡ true
all_blank before newline after h =
    rw (
      list_all-append is_blank_byte before (newline ++ after),
      list_all-append is_blank_byte newline after,
      ws_blank before h.0,
      newline_blank newline h.1,
      run_blank after h.2,
    ) refl

unset : (b : Bool) → not b ≡ true → b ≡ false
unset true h = absurd cc
unset false h = refl

other_blank : (b : ℕ) → (is_basic b || b == 0x22) ≡ true → is_ws b ≡ false → is_blank_byte b ≡ false
other_blank b h white = grind (arith, nat_tests)

no_more_blank : (a b c : List ℕ) (ps : List Piece) → Each (IsMlBasicPiece Wide) ps
    → takes_all (LineEnd a b c ∷ ps) ≡ true → prefix_len is_blank_byte (text_of ps) ≡ 0
no_more_blank a b c [] each whole = refl
no_more_blank a b c (Plain d ∷ ps) each whole =
    let white = unset (is_ws d) (and_parts (not (is_ws d)) (takes_all (Plain d ∷ ps)) whole).0 in
    rw (other_blank d each.0 white) refl
no_more_blank a b c (Letter d ∷ ps) each whole = refl
no_more_blank a b c (Number d ds ∷ ps) each whole = refl
no_more_blank a b c (Break d ∷ ps) each whole = absurd cc
no_more_blank a b c (LineEnd d e f ∷ ps) each whole = refl

line_end_read : (a b c : List ℕ) (ps : List Piece) → IsMlBasicPiece Wide (LineEnd a b c) → Each (IsMlBasicPiece Wide) ps
    → takes_all (LineEnd a b c ∷ ps) ≡ true
    → unescaped_text 0 (text_of (LineEnd a b c ∷ ps)) ≡ unescaped_text 0 (text_of ps)
line_end_read a b c ps h each whole =
    let some : 0 < length (a ++ (b ++ c)) =
    omega (arith, newline_some b h.1, length-append a (b ++ c), length-append b c) in
    blanks_read (a ++ (b ++ c)) (text_of ps) some (all_blank a b c h) (no_more_blank a b c ps each whole)

-- ---- all pieces

plain_test : (b : ℕ) → (is_basic b || b == 0x22) ≡ true → (b == 0x5C) ≡ false
plain_test b h = grind (arith, nat_tests)

pub plain_read : (b : ℕ) (rest : List ℕ) → (b == 0x5C) ≡ false → unescaped_text 0 (b ∷ rest) ≡ b ∷ unescaped_text 0 rest
plain_read b rest h = rw h refl

newline_read : (newline rest : List ℕ) → Newline newline
    → unescaped_text 0 (newline ++ rest) ≡ newline ++ unescaped_text 0 rest
newline_read newline rest (inl e) = rw e refl
newline_read newline rest (inr e) = rw e refl

unescaped : (ps : List Piece) → Each (IsMlBasicPiece Wide) ps → takes_all ps ≡ true
    → unescaped_text 0 (text_of ps) ≡ value_of ps
unescaped [] each whole = refl
unescaped (Plain b ∷ ps) each whole =
    plain_read b (text_of ps) (plain_test b each.0)
    ∙ ap (λ t. b ∷ t) (unescaped ps each.1 (takes_all_rest (Plain b) ps whole))
unescaped (Letter c ∷ ps) each whole =
    letter_read c (text_of ps) each.0
    ∙ ap (λ t. letter_value Wide c ∷ t) (unescaped ps each.1 (takes_all_rest (Letter c) ps whole))
unescaped (Number c ds ∷ ps) each whole =
    number_read c ds (text_of ps) each.0.0 each.0.1
    ∙ ap (λ t. encode_utf8 (sum_of_digits 16 ds) ++ t) (unescaped ps each.1 (takes_all_rest (Number c ds) ps whole))
unescaped (Break newline ∷ ps) each whole =
    newline_read newline (text_of ps) each.0
    ∙ ap (λ t. newline ++ t) (unescaped ps each.1 (takes_all_rest (Break newline) ps whole))
unescaped (LineEnd a b c ∷ ps) each whole =
    line_end_read a b c ps each.0 each.1 whole ∙ unescaped ps each.1 (takes_all_rest (LineEnd a b c) ps whole)

-- ---- a newline right after the opening

no_newline : (text : List ℕ) → (slice_index text 0 == 0x0A) ≡ false → (slice_index text 0 == 0x0D) ≡ false
    → without_newline text ≡ text
no_newline text lf cr = rw (lf, cr) refl

newline_left_out : (newline rest : List ℕ) → Newline newline → without_newline (newline ++ rest) ≡ rest
newline_left_out newline rest (inl e) = rw e refl
newline_left_out newline rest (inr e) = rw e refl

basic_no_lf : (b : ℕ) → (is_basic b || b == 0x22) ≡ true → (b == 0x0A) ≡ false
basic_no_lf b h = grind (arith, nat_tests)

basic_no_cr : (b : ℕ) → (is_basic b || b == 0x22) ≡ true → (b == 0x0D) ≡ false
basic_no_cr b h = grind (arith, nat_tests)

literal_no_lf : (b : ℕ) → (is_literal b || b == 0x27) ≡ true → (b == 0x0A) ≡ false
literal_no_lf b h = grind (arith, nat_tests)

literal_no_cr : (b : ℕ) → (is_literal b || b == 0x27) ≡ true → (b == 0x0D) ≡ false
literal_no_cr b h = grind (arith, nat_tests)

ml_basic_read : (ps : List Piece) → Each (IsMlBasicPiece Wide) ps → takes_all ps ≡ true
    → unescaped_text 0 (without_newline (text_of ps)) ≡ ml_value_of ps
ml_basic_read [] each whole = refl
ml_basic_read (Plain b ∷ ps) each whole =
    ap (unescaped_text 0) (no_newline (b ∷ text_of ps) (basic_no_lf b each.0) (basic_no_cr b each.0))
    ∙ unescaped (Plain b ∷ ps) each whole
ml_basic_read (Letter c ∷ ps) each whole = unescaped (Letter c ∷ ps) each whole
ml_basic_read (Number c ds ∷ ps) each whole = unescaped (Number c ds ∷ ps) each whole
ml_basic_read (Break newline ∷ ps) each whole =
    ap (unescaped_text 0) (newline_left_out newline (text_of ps) each.0)
    ∙ unescaped ps each.1 (takes_all_rest (Break newline) ps whole)
ml_basic_read (LineEnd a b c ∷ ps) each whole = unescaped (LineEnd a b c ∷ ps) each whole

ml_literal_read : (ps : List Piece) → Each IsMlLiteralPiece ps → without_newline (text_of ps) ≡ ml_value_of ps
ml_literal_read [] each = refl
ml_literal_read (Plain b ∷ ps) each =
    no_newline (b ∷ text_of ps) (literal_no_lf b each.0) (literal_no_cr b each.0)
    ∙ sym (ml_literal_value (Plain b ∷ ps) each)
ml_literal_read (Break newline ∷ ps) each =
    newline_left_out newline (text_of ps) each.0 ∙ sym (ml_literal_value ps each.1)
ml_literal_read (Letter c ∷ ps) each = absurd each.0
ml_literal_read (Number c ds ∷ ps) each = absurd each.0
ml_literal_read (LineEnd a b c ∷ ps) each = absurd each.0

-- ---- between the marks

pub one_between : (mark : ℕ) (text body : List ℕ) → text ≡ mark ∷ body ++ (mark ∷ []) → between_marks 1 text ≡ body
one_between mark text body e =
    ap (between_marks 1) e
    ∙ take_at body (mark ∷ []) (length (mark ∷ body ++ (mark ∷ [])) - 2) (omega (arith, length-append body (mark ∷ [])))

three_between : (mark : ℕ) (text body : List ℕ) → text ≡ mark ∷ mark ∷ mark ∷ body ++ (mark ∷ mark ∷ mark ∷ [])
    → between_marks 3 text ≡ body
three_between mark text body e =
    let marks = mark ∷ mark ∷ mark ∷ [] in
    ap (between_marks 3) e
    ∙ take_at body marks (length (mark ∷ mark ∷ mark ∷ body ++ marks) - 6) (omega (arith, length-append body marks))

-- ---- strings

pub means_value : (l : Leaf) (text value : List ℕ) → IsTrue (is_string_leaf l) → Means Wide l text value
    → value ≡ string_value l text
means_value leaf.BareKey text value kind h = h
means_value leaf.Basic text value kind (ps, string, h) =
    let body = basic_body (text_of ps) ps refl string.each in
    h ∙ sym (unescaped ps body.each body.whole)
    ∙ ap (unescaped_text 0) (sym (one_between 0x22 text (text_of ps) string.spelled))
means_value leaf.Literal text value kind (ps, string, h) =
    h ∙ literal_value ps string.each ∙ sym (one_between 0x27 text (text_of ps) string.spelled)
means_value leaf.MlBasic text value kind (ps, string, h) =
    h ∙ sym (ml_basic_read ps string.each string.whole)
    ∙ ap (λ t. unescaped_text 0 (without_newline t)) (sym (three_between 0x22 text (text_of ps) string.spelled))
means_value leaf.MlLiteral text value kind (ps, string, h) =
    h ∙ sym (ml_literal_read ps string.each)
    ∙ ap without_newline (sym (three_between 0x27 text (text_of ps) string.spelled))
means_value _ text value kind h = absurd h
