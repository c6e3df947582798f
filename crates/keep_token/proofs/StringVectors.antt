-- Strings with the bytes that they mean, and texts that are no strings. The texts of TOML v1.0.0's examples are among
-- them.
--
-- Each row is a lemma over the definitions alone: a string's pieces are given, and their text and meaning are computed.
-- That a text is no string is shown by the test of its kind: `Basic` has the text only if the scan finds all of it, and
-- the scan, computed, finds less or nothing.
--
-- Theorems: all are rows, which nothing cites.
use Rattle.std.proofs.Common.{◌≡◌, ℕ, List, [], ◌∷◌, length, Option, Some, None, refl, sym, ap, ◌∙◌, inl, inr, arith}
use Rattle.std.proofs.Common.{append-nil}
use Rattle.keep_types.specs.declared.leaf.Profile.{Profile}
use Rattle.keep_types.specs.declared.leaf.Profile.TheVariants.{Strict, Wide}
use Rattle.keep_types.specs.declared.leaf.Leaf.TheVariants as leaf
use Rattle.keep_token.specs.Strings.{Plain, Letter, Number, Break, LineEnd, Basic, Literal, MlBasic, MlLiteral}
use Rattle.keep_token.specs.Leaves.{Means}
use Rattle.keep_token.specs.Pieces.{basic_at, literal_at, ml_basic_at, ml_literal_at}
use Rattle.keep_token.proofs.StringKinds.{basic_again, literal_again, ml_basic_again, ml_literal_again}

-- ---- strings and what they mean

e_acute : Means Strict leaf.Basic (0x22 ∷ 0x5C ∷ 0x75 ∷ 0x30 ∷ 0x30 ∷ 0x65 ∷ 0x39 ∷ 0x22 ∷ []) (0xC3 ∷ 0xA9 ∷ [])
unfolding lib.Utf8.encode
e_acute = (
  (Number 0x75 (0x30 ∷ 0x30 ∷ 0x65 ∷ 0x39 ∷ []) ∷ []),
  record { spelled = refl; each = ((omega arith, refl, refl, refl), tt) },
  refl,
)

smile : Means Strict leaf.Basic (0x22 ∷ 0x5C ∷ 0x55 ∷ 0x30 ∷ 0x30 ∷ 0x30 ∷ 0x31 ∷ 0x46 ∷ 0x36 ∷ 0x30 ∷ 0x30 ∷ 0x22 ∷ [])
    (0xF0 ∷ 0x9F ∷ 0x98 ∷ 0x80 ∷ [])
unfolding lib.Utf8.encode
smile = (
  (Number 0x55 (0x30 ∷ 0x30 ∷ 0x30 ∷ 0x31 ∷ 0x46 ∷ 0x36 ∷ 0x30 ∷ 0x30 ∷ []) ∷ []),
  record { spelled = refl; each = ((omega arith, refl, refl, refl), tt) },
  refl,
)

last_character : Means Strict leaf.Basic
    (0x22 ∷ 0x5C ∷ 0x55 ∷ 0x30 ∷ 0x30 ∷ 0x31 ∷ 0x30 ∷ 0x46 ∷ 0x46 ∷ 0x46 ∷ 0x46 ∷ 0x22 ∷ [])
    (0xF4 ∷ 0x8F ∷ 0xBF ∷ 0xBF ∷ [])
unfolding lib.Utf8.encode
last_character = (
  (Number 0x55 (0x30 ∷ 0x30 ∷ 0x31 ∷ 0x30 ∷ 0x46 ∷ 0x46 ∷ 0x46 ∷ 0x46 ∷ []) ∷ []),
  record { spelled = refl; each = ((omega arith, refl, refl, refl), tt) },
  refl,
)

zero_character : Means Strict leaf.Basic (0x22 ∷ 0x5C ∷ 0x75 ∷ 0x30 ∷ 0x30 ∷ 0x30 ∷ 0x30 ∷ 0x22 ∷ []) (0x00 ∷ [])
unfolding lib.Utf8.encode
zero_character = (
  (Number 0x75 (0x30 ∷ 0x30 ∷ 0x30 ∷ 0x30 ∷ []) ∷ []),
  record { spelled = refl; each = ((omega arith, refl, refl, refl), tt) },
  refl,
)

before_surrogates : Means Strict leaf.Basic (0x22 ∷ 0x5C ∷ 0x75 ∷ 0x64 ∷ 0x37 ∷ 0x46 ∷ 0x46 ∷ 0x22 ∷ [])
    (0xED ∷ 0x9F ∷ 0xBF ∷ [])
unfolding lib.Utf8.encode
before_surrogates = (
  (Number 0x75 (0x64 ∷ 0x37 ∷ 0x46 ∷ 0x46 ∷ []) ∷ []),
  record { spelled = refl; each = ((omega arith, refl, refl, refl), tt) },
  refl,
)

after_surrogates : Means Strict leaf.Basic (0x22 ∷ 0x5C ∷ 0x75 ∷ 0x45 ∷ 0x30 ∷ 0x30 ∷ 0x30 ∷ 0x22 ∷ [])
    (0xEE ∷ 0x80 ∷ 0x80 ∷ [])
unfolding lib.Utf8.encode
after_surrogates = (
  (Number 0x75 (0x45 ∷ 0x30 ∷ 0x30 ∷ 0x30 ∷ []) ∷ []),
  record { spelled = refl; each = ((omega arith, refl, refl, refl), tt) },
  refl,
)

all_letters : Means Strict leaf.Basic
    (0x22 ∷ 0x5C ∷ 0x22 ∷ 0x5C ∷ 0x5C ∷ 0x5C ∷ 0x62 ∷ 0x5C ∷ 0x66 ∷ 0x5C ∷ 0x6E ∷ 0x5C ∷ 0x72 ∷ 0x5C ∷ 0x74 ∷ 0x22 ∷ [])
    (0x22 ∷ 0x5C ∷ 0x08 ∷ 0x0C ∷ 0x0A ∷ 0x0D ∷ 0x09 ∷ [])
all_letters = (
  (Letter 0x22 ∷ Letter 0x5C ∷ Letter 0x62 ∷ Letter 0x66 ∷ Letter 0x6E ∷ Letter 0x72 ∷ Letter 0x74 ∷ []),
  record {
    spelled = refl;
    each = (omega arith, (omega arith, (omega arith, (omega arith, (omega arith, (omega arith, (omega arith, tt)))))));
  },
  refl,
)

empty_basic : Means Strict leaf.Basic (0x22 ∷ 0x22 ∷ []) ([])
empty_basic = (([]), record { spelled = refl; each = tt }, refl)

raw_bytes : Means Strict leaf.Basic (0x22 ∷ 0x09 ∷ 0x20 ∷ 0xC3 ∷ 0xA9 ∷ 0x27 ∷ 0x23 ∷ 0x7E ∷ 0x22 ∷ [])
    (0x09 ∷ 0x20 ∷ 0xC3 ∷ 0xA9 ∷ 0x27 ∷ 0x23 ∷ 0x7E ∷ [])
raw_bytes = (
  (Plain 0x09 ∷ Plain 0x20 ∷ Plain 0xC3 ∷ Plain 0xA9 ∷ Plain 0x27 ∷ Plain 0x23 ∷ Plain 0x7E ∷ []),
  record { spelled = refl; each = (refl, (refl, (refl, (refl, (refl, (refl, (refl, tt))))))) },
  refl,
)

windows_path : Means Strict leaf.Literal (0x27 ∷ 0x43 ∷ 0x3A ∷ 0x5C ∷ 0x78 ∷ 0x27 ∷ []) (0x43 ∷ 0x3A ∷ 0x5C ∷ 0x78 ∷ [])
windows_path = (
  (Plain 0x43 ∷ Plain 0x3A ∷ Plain 0x5C ∷ Plain 0x78 ∷ []),
  record { spelled = refl; each = (refl, (refl, (refl, (refl, tt)))) },
  refl,
)

empty_literal : Means Strict leaf.Literal (0x27 ∷ 0x27 ∷ []) ([])
empty_literal = (([]), record { spelled = refl; each = tt }, refl)

line_ending_backslash : Means Strict leaf.MlBasic
    (0x22 ∷ 0x22 ∷ 0x22 ∷ 0x0A ∷ 0x61 ∷ 0x5C ∷ 0x20 ∷ 0x20 ∷ 0x0A ∷ 0x0A ∷ 0x20 ∷ 0x62 ∷ 0x22 ∷ 0x22 ∷ 0x22 ∷ [])
    (0x61 ∷ 0x62 ∷ [])
line_ending_backslash = (
  (Break (0x0A ∷ []) ∷ Plain 0x61 ∷ LineEnd (0x20 ∷ 0x20 ∷ []) (0x0A ∷ []) (0x0A ∷ 0x20 ∷ []) ∷ Plain 0x62 ∷ []),
  record {
    spelled = refl;
    each = (inl refl, (refl, ((refl, inl refl, refl), (refl, tt))));
    no_end = refl;
    whole = refl;
  },
  refl,
)

carriage_return_preserved : Means Strict leaf.MlBasic
    (0x22 ∷ 0x22 ∷ 0x22 ∷ 0x61 ∷ 0x0D ∷ 0x0A ∷ 0x62 ∷ 0x22 ∷ 0x22 ∷ 0x22 ∷ []) (0x61 ∷ 0x0D ∷ 0x0A ∷ 0x62 ∷ [])
carriage_return_preserved = (
  (Plain 0x61 ∷ Break (0x0D ∷ 0x0A ∷ []) ∷ Plain 0x62 ∷ []),
  record { spelled = refl; each = (refl, (inr refl, (refl, tt))); no_end = refl; whole = refl },
  refl,
)

six_marks : Means Strict leaf.MlBasic (0x22 ∷ 0x22 ∷ 0x22 ∷ 0x22 ∷ 0x22 ∷ 0x22 ∷ []) ([])
six_marks = (([]), record { spelled = refl; each = tt; no_end = refl; whole = refl }, refl)

seven_marks : Means Strict leaf.MlBasic (0x22 ∷ 0x22 ∷ 0x22 ∷ 0x22 ∷ 0x22 ∷ 0x22 ∷ 0x22 ∷ []) (0x22 ∷ [])
seven_marks = ((Plain 0x22 ∷ []), record { spelled = refl; each = (refl, tt); no_end = refl; whole = refl }, refl)

eight_marks : Means Strict leaf.MlBasic (0x22 ∷ 0x22 ∷ 0x22 ∷ 0x22 ∷ 0x22 ∷ 0x22 ∷ 0x22 ∷ 0x22 ∷ []) (0x22 ∷ 0x22 ∷ [])
eight_marks = (
  (Plain 0x22 ∷ Plain 0x22 ∷ []),
  record { spelled = refl; each = (refl, (refl, tt)); no_end = refl; whole = refl },
  refl,
)

escaped_mark : Means Strict leaf.MlBasic (0x22 ∷ 0x22 ∷ 0x22 ∷ 0x5C ∷ 0x22 ∷ 0x22 ∷ 0x22 ∷ 0x22 ∷ []) (0x22 ∷ [])
escaped_mark =
    ((Letter 0x22 ∷ []), record { spelled = refl; each = (omega arith, tt); no_end = refl; whole = refl }, refl)

two_marks_at_the_end : Means Strict leaf.MlBasic (0x22 ∷ 0x22 ∷ 0x22 ∷ 0x78 ∷ 0x22 ∷ 0x22 ∷ 0x22 ∷ 0x22 ∷ 0x22 ∷ [])
    (0x78 ∷ 0x22 ∷ 0x22 ∷ [])
two_marks_at_the_end = (
  (Plain 0x78 ∷ Plain 0x22 ∷ Plain 0x22 ∷ []),
  record { spelled = refl; each = (refl, (refl, (refl, tt))); no_end = refl; whole = refl },
  refl,
)

marks_all_round : Means Strict leaf.MlBasic
    (0x22 ∷ 0x22 ∷ 0x22 ∷ 0x22 ∷ 0x22 ∷ 0x78 ∷ 0x22 ∷ 0x79 ∷ 0x22 ∷ 0x22 ∷ 0x22 ∷ 0x22 ∷ 0x22 ∷ [])
    (0x22 ∷ 0x22 ∷ 0x78 ∷ 0x22 ∷ 0x79 ∷ 0x22 ∷ 0x22 ∷ [])
marks_all_round = (
  (Plain 0x22 ∷ Plain 0x22 ∷ Plain 0x78 ∷ Plain 0x22 ∷ Plain 0x79 ∷ Plain 0x22 ∷ Plain 0x22 ∷ []),
  record {
    spelled = refl;
    each = (refl, (refl, (refl, (refl, (refl, (refl, (refl, tt)))))));
    no_end = refl;
    whole = refl;
  },
  refl,
)

two_line_ends : Means Strict leaf.MlBasic
    (0x22 ∷ 0x22 ∷ 0x22 ∷ 0x5C ∷ 0x0D ∷ 0x0A ∷ 0x20 ∷ 0x09 ∷ 0x0D ∷ 0x0A ∷ 0x0A ∷ 0x5C ∷ 0x09 ∷ 0x0A ∷ 0x5C ∷ 0x6E
    ∷ 0x22 ∷ 0x22 ∷ 0x22 ∷ []) (0x0A ∷ [])
two_line_ends = (
  (LineEnd ([]) (0x0D ∷ 0x0A ∷ []) (0x20 ∷ 0x09 ∷ 0x0D ∷ 0x0A ∷ 0x0A ∷ []) ∷ LineEnd (0x09 ∷ []) (0x0A ∷ []) ([])
      ∷ Letter 0x6E ∷ []),
  record {
    spelled = refl;
    each = ((refl, inr refl, refl), ((refl, inl refl, refl), (omega arith, tt)));
    no_end = refl;
    whole = refl;
  },
  refl,
)

first_newline_gone : Means Strict leaf.MlBasic (0x22 ∷ 0x22 ∷ 0x22 ∷ 0x0A ∷ 0x0D ∷ 0x0A ∷ 0x22 ∷ 0x22 ∷ 0x22 ∷ [])
    (0x0D ∷ 0x0A ∷ [])
first_newline_gone = (
  (Break (0x0A ∷ []) ∷ Break (0x0D ∷ 0x0A ∷ []) ∷ []),
  record { spelled = refl; each = (inl refl, (inr refl, tt)); no_end = refl; whole = refl },
  refl,
)

apostrophes_all_round : Means Strict leaf.MlLiteral (0x27 ∷ 0x27 ∷ 0x27 ∷ 0x27 ∷ 0x78 ∷ 0x27 ∷ 0x27 ∷ 0x27 ∷ 0x27 ∷ [])
    (0x27 ∷ 0x78 ∷ 0x27 ∷ [])
apostrophes_all_round = (
  (Plain 0x27 ∷ Plain 0x78 ∷ Plain 0x27 ∷ []),
  record { spelled = refl; each = (refl, (refl, (refl, tt))); no_end = refl },
  refl,
)

first_carriage_return_gone : Means Strict leaf.MlLiteral
    (0x27 ∷ 0x27 ∷ 0x27 ∷ 0x0D ∷ 0x0A ∷ 0x61 ∷ 0x5C ∷ 0x0A ∷ 0x27 ∷ 0x27 ∷ 0x27 ∷ []) (0x61 ∷ 0x5C ∷ 0x0A ∷ [])
first_carriage_return_gone = (
  (Break (0x0D ∷ 0x0A ∷ []) ∷ Plain 0x61 ∷ Plain 0x5C ∷ Break (0x0A ∷ []) ∷ []),
  record { spelled = refl; each = (inr refl, (refl, (refl, (inl refl, tt)))); no_end = refl },
  refl,
)

wide_escapes : Means Wide leaf.Basic (0x22 ∷ 0x5C ∷ 0x78 ∷ 0x34 ∷ 0x31 ∷ 0x5C ∷ 0x65 ∷ 0x22 ∷ []) (0x41 ∷ 0x1B ∷ [])
unfolding lib.Utf8.encode
wide_escapes = (
  (Number 0x78 (0x34 ∷ 0x31 ∷ []) ∷ Letter 0x65 ∷ []),
  record { spelled = refl; each = ((omega arith, refl, refl, refl), (omega arith, tt)) },
  refl,
)

wide_hexadecimal : Means Wide leaf.MlBasic (0x22 ∷ 0x22 ∷ 0x22 ∷ 0x5C ∷ 0x78 ∷ 0x66 ∷ 0x46 ∷ 0x22 ∷ 0x22 ∷ 0x22 ∷ [])
    (0xC3 ∷ 0xBF ∷ [])
unfolding lib.Utf8.encode
wide_hexadecimal = (
  (Number 0x78 (0x66 ∷ 0x46 ∷ []) ∷ []),
  record { spelled = refl; each = ((omega arith, refl, refl, refl), tt); no_end = refl; whole = refl },
  refl,
)

-- ---- texts that are no strings

-- where none is found, or one of another length, the text is none
pub not_basic : (profile : Profile) (text : List ℕ) (found : Option ℕ) → basic_at profile text ≡ found
    → (found ≡ Some (length text) → ⊥) → Basic profile text → ⊥
not_basic profile text found e other h =
    other (sym e ∙ ap (basic_at profile) (sym (append-nil text)) ∙ basic_again profile text [] h)

pub not_literal : (text : List ℕ) (found : Option ℕ) → literal_at text ≡ found → (found ≡ Some (length text) → ⊥)
    → Literal text → ⊥
not_literal text found e other h = other (sym e ∙ ap literal_at (sym (append-nil text)) ∙ literal_again text [] h)

pub not_ml_basic : (profile : Profile) (text : List ℕ) (found : Option ℕ) → ml_basic_at profile text ≡ found
    → (found ≡ Some (length text) → ⊥) → MlBasic profile text → ⊥
not_ml_basic profile text found e other h =
    other (sym e ∙ ap (ml_basic_at profile) (sym (append-nil text)) ∙ ml_basic_again profile text [] h refl)

pub not_ml_literal : (text : List ℕ) (found : Option ℕ) → ml_literal_at text ≡ found → (found ≡ Some (length text) → ⊥)
    → MlLiteral text → ⊥
not_ml_literal text found e other h =
    other (sym e ∙ ap ml_literal_at (sym (append-nil text)) ∙ ml_literal_again text [] h refl)

none_some : (n : ℕ) → None ≡ Some n → ⊥
none_some n e = cc

differs : (a b : ℕ) → (a ≡ b → ⊥) → Some a ≡ Some b → ⊥
differs a b h e = h cc

-- "\q"
no_such_letter : Basic Strict (0x22 ∷ 0x5C ∷ 0x71 ∷ 0x22 ∷ []) → ⊥
no_such_letter = not_basic Strict (0x22 ∷ 0x5C ∷ 0x71 ∷ 0x22 ∷ []) None refl (none_some _)

-- "\e" in Strict
no_wide_letter : Basic Strict (0x22 ∷ 0x5C ∷ 0x65 ∷ 0x22 ∷ []) → ⊥
no_wide_letter = not_basic Strict (0x22 ∷ 0x5C ∷ 0x65 ∷ 0x22 ∷ []) None refl (none_some _)

-- "\x41" in Strict
no_wide_number : Basic Strict (0x22 ∷ 0x5C ∷ 0x78 ∷ 0x34 ∷ 0x31 ∷ 0x22 ∷ []) → ⊥
no_wide_number = not_basic Strict (0x22 ∷ 0x5C ∷ 0x78 ∷ 0x34 ∷ 0x31 ∷ 0x22 ∷ []) None refl (none_some _)

-- "\uD800"
no_surrogate : Basic Strict (0x22 ∷ 0x5C ∷ 0x75 ∷ 0x44 ∷ 0x38 ∷ 0x30 ∷ 0x30 ∷ 0x22 ∷ []) → ⊥
no_surrogate = not_basic Strict (0x22 ∷ 0x5C ∷ 0x75 ∷ 0x44 ∷ 0x38 ∷ 0x30 ∷ 0x30 ∷ 0x22 ∷ []) None refl (none_some _)

-- "\uDFFF" in Wide
no_last_surrogate : Basic Wide (0x22 ∷ 0x5C ∷ 0x75 ∷ 0x44 ∷ 0x46 ∷ 0x46 ∷ 0x46 ∷ 0x22 ∷ []) → ⊥
no_last_surrogate = not_basic Wide (0x22 ∷ 0x5C ∷ 0x75 ∷ 0x44 ∷ 0x46 ∷ 0x46 ∷ 0x46 ∷ 0x22 ∷ []) None refl (none_some _)

-- "\U00110000"
past_last_character : Basic Strict
    (0x22 ∷ 0x5C ∷ 0x55 ∷ 0x30 ∷ 0x30 ∷ 0x31 ∷ 0x31 ∷ 0x30 ∷ 0x30 ∷ 0x30 ∷ 0x30 ∷ 0x22 ∷ []) → ⊥
past_last_character =
    not_basic Strict (0x22 ∷ 0x5C ∷ 0x55 ∷ 0x30 ∷ 0x30 ∷ 0x31 ∷ 0x31 ∷ 0x30 ∷ 0x30 ∷ 0x30 ∷ 0x30 ∷ 0x22 ∷ []) None refl
    (none_some _)

-- "\u00e"
three_digits : Basic Strict (0x22 ∷ 0x5C ∷ 0x75 ∷ 0x30 ∷ 0x30 ∷ 0x65 ∷ 0x22 ∷ []) → ⊥
three_digits = not_basic Strict (0x22 ∷ 0x5C ∷ 0x75 ∷ 0x30 ∷ 0x30 ∷ 0x65 ∷ 0x22 ∷ []) None refl (none_some _)

-- "a
no_closing : Basic Strict (0x22 ∷ 0x61 ∷ []) → ⊥
no_closing = not_basic Strict (0x22 ∷ 0x61 ∷ []) None refl (none_some _)

-- "
no_opening_alone : Basic Strict (0x22 ∷ []) → ⊥
no_opening_alone = not_basic Strict (0x22 ∷ []) None refl (none_some _)

-- "a"b"
closing_nested : Basic Strict (0x22 ∷ 0x61 ∷ 0x22 ∷ 0x62 ∷ 0x22 ∷ []) → ⊥
closing_nested =
    not_basic Strict (0x22 ∷ 0x61 ∷ 0x22 ∷ 0x62 ∷ 0x22 ∷ []) (Some 3) refl (differs 3 5 (λ e. omega (arith, e)))

-- a newline on one line
newline_in_basic : Basic Strict (0x22 ∷ 0x61 ∷ 0x0A ∷ 0x62 ∷ 0x22 ∷ []) → ⊥
newline_in_basic = not_basic Strict (0x22 ∷ 0x61 ∷ 0x0A ∷ 0x62 ∷ 0x22 ∷ []) None refl (none_some _)

-- a line-ending backslash on one line
line_end_in_basic : Basic Strict (0x22 ∷ 0x61 ∷ 0x5C ∷ 0x0A ∷ 0x62 ∷ 0x22 ∷ []) → ⊥
line_end_in_basic = not_basic Strict (0x22 ∷ 0x61 ∷ 0x5C ∷ 0x0A ∷ 0x62 ∷ 0x22 ∷ []) None refl (none_some _)

-- 0x7F
delete_in_basic : Basic Strict (0x22 ∷ 0x7F ∷ 0x22 ∷ []) → ⊥
delete_in_basic = not_basic Strict (0x22 ∷ 0x7F ∷ 0x22 ∷ []) None refl (none_some _)

-- 0x1F
control_in_basic : Basic Strict (0x22 ∷ 0x1F ∷ 0x22 ∷ []) → ⊥
control_in_basic = not_basic Strict (0x22 ∷ 0x1F ∷ 0x22 ∷ []) None refl (none_some _)

-- nine quotation marks
nine_marks_basic : Basic Strict (0x22 ∷ 0x22 ∷ 0x22 ∷ 0x22 ∷ 0x22 ∷ 0x22 ∷ 0x22 ∷ 0x22 ∷ 0x22 ∷ []) → ⊥
nine_marks_basic =
    not_basic Strict (0x22 ∷ 0x22 ∷ 0x22 ∷ 0x22 ∷ 0x22 ∷ 0x22 ∷ 0x22 ∷ 0x22 ∷ 0x22 ∷ []) (Some 2) refl
    (differs 2 9 (λ e. omega (arith, e)))

-- nine quotation marks
nine_marks : MlBasic Strict (0x22 ∷ 0x22 ∷ 0x22 ∷ 0x22 ∷ 0x22 ∷ 0x22 ∷ 0x22 ∷ 0x22 ∷ 0x22 ∷ []) → ⊥
nine_marks =
    not_ml_basic Strict (0x22 ∷ 0x22 ∷ 0x22 ∷ 0x22 ∷ 0x22 ∷ 0x22 ∷ 0x22 ∷ 0x22 ∷ 0x22 ∷ []) (Some 8) refl
    (differs 8 9 (λ e. omega (arith, e)))

-- five quotation marks
five_marks : MlBasic Strict (0x22 ∷ 0x22 ∷ 0x22 ∷ 0x22 ∷ 0x22 ∷ []) → ⊥
five_marks = not_ml_basic Strict (0x22 ∷ 0x22 ∷ 0x22 ∷ 0x22 ∷ 0x22 ∷ []) None refl (none_some _)

-- three quotation marks inside
three_in_the_body : MlBasic Strict (0x22 ∷ 0x22 ∷ 0x22 ∷ 0x61 ∷ 0x22 ∷ 0x22 ∷ 0x22 ∷ 0x62 ∷ 0x22 ∷ 0x22 ∷ 0x22 ∷ []) → ⊥
three_in_the_body =
    not_ml_basic Strict (0x22 ∷ 0x22 ∷ 0x22 ∷ 0x61 ∷ 0x22 ∷ 0x22 ∷ 0x22 ∷ 0x62 ∷ 0x22 ∷ 0x22 ∷ 0x22 ∷ []) (Some 7) refl
    (differs 7 11 (λ e. omega (arith, e)))

-- a carriage return alone
return_alone : MlBasic Strict (0x22 ∷ 0x22 ∷ 0x22 ∷ 0x61 ∷ 0x0D ∷ 0x62 ∷ 0x22 ∷ 0x22 ∷ 0x22 ∷ []) → ⊥
return_alone =
    not_ml_basic Strict (0x22 ∷ 0x22 ∷ 0x22 ∷ 0x61 ∷ 0x0D ∷ 0x62 ∷ 0x22 ∷ 0x22 ∷ 0x22 ∷ []) None refl (none_some _)

-- a backslash and a space, with no newline
backslash_space : MlBasic Strict (0x22 ∷ 0x22 ∷ 0x22 ∷ 0x61 ∷ 0x5C ∷ 0x20 ∷ 0x62 ∷ 0x22 ∷ 0x22 ∷ 0x22 ∷ []) → ⊥
backslash_space =
    not_ml_basic Strict (0x22 ∷ 0x22 ∷ 0x22 ∷ 0x61 ∷ 0x5C ∷ 0x20 ∷ 0x62 ∷ 0x22 ∷ 0x22 ∷ 0x22 ∷ []) None refl
    (none_some _)

-- 0x7F
delete_in_ml_basic : MlBasic Strict (0x22 ∷ 0x22 ∷ 0x22 ∷ 0x7F ∷ 0x22 ∷ 0x22 ∷ 0x22 ∷ []) → ⊥
delete_in_ml_basic = not_ml_basic Strict (0x22 ∷ 0x22 ∷ 0x22 ∷ 0x7F ∷ 0x22 ∷ 0x22 ∷ 0x22 ∷ []) None refl (none_some _)

-- 'it's'
apostrophe_in_literal : Literal (0x27 ∷ 0x69 ∷ 0x74 ∷ 0x27 ∷ 0x73 ∷ 0x27 ∷ []) → ⊥
apostrophe_in_literal =
    not_literal (0x27 ∷ 0x69 ∷ 0x74 ∷ 0x27 ∷ 0x73 ∷ 0x27 ∷ []) (Some 4) refl (differs 4 6 (λ e. omega (arith, e)))

-- a newline on one line
newline_in_literal : Literal (0x27 ∷ 0x61 ∷ 0x0A ∷ 0x27 ∷ []) → ⊥
newline_in_literal = not_literal (0x27 ∷ 0x61 ∷ 0x0A ∷ 0x27 ∷ []) None refl (none_some _)

-- 0x00
null_in_literal : Literal (0x27 ∷ 0x00 ∷ 0x27 ∷ []) → ⊥
null_in_literal = not_literal (0x27 ∷ 0x00 ∷ 0x27 ∷ []) None refl (none_some _)

-- nine apostrophes
nine_apostrophes : MlLiteral (0x27 ∷ 0x27 ∷ 0x27 ∷ 0x27 ∷ 0x27 ∷ 0x27 ∷ 0x27 ∷ 0x27 ∷ 0x27 ∷ []) → ⊥
nine_apostrophes =
    not_ml_literal (0x27 ∷ 0x27 ∷ 0x27 ∷ 0x27 ∷ 0x27 ∷ 0x27 ∷ 0x27 ∷ 0x27 ∷ 0x27 ∷ []) (Some 8) refl
    (differs 8 9 (λ e. omega (arith, e)))

-- a carriage return alone
return_alone_in_literal : MlLiteral (0x27 ∷ 0x27 ∷ 0x27 ∷ 0x61 ∷ 0x0D ∷ 0x62 ∷ 0x27 ∷ 0x27 ∷ 0x27 ∷ []) → ⊥
return_alone_in_literal =
    not_ml_literal (0x27 ∷ 0x27 ∷ 0x27 ∷ 0x61 ∷ 0x0D ∷ 0x62 ∷ 0x27 ∷ 0x27 ∷ 0x27 ∷ []) None refl (none_some _)
