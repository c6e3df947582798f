-- What Strict accepts, Wide accepts.
--
-- Theorems: `leaf_wider`: a leaf in `Strict` is a leaf in `Wide`; `means_wider`: what a string means in `Strict` it
-- means in `Wide`.
use Rattle.std.proofs.Common.{◌≡◌, ℕ, ◌<◌, List, [], ◌∷◌, sym, ◌∙◌, inl, arith}
use Rattle.std.proofs.lemmas.Bool.Decides.{nat_tests}
use Rattle.keep_types.specs.declared.leaf.Leaf.{Leaf}
use Rattle.keep_types.specs.declared.leaf.Leaf.TheVariants as leaf
use Rattle.keep_types.specs.declared.leaf.Profile.TheVariants.{Strict, Wide}
use Rattle.keep_token.specs.Strings.{Piece, Plain, Letter, Number, Break, LineEnd, letter_value, digit_count, IsEscape}
use Rattle.keep_token.specs.Strings.{IsBasicPiece, IsMlBasicPiece, Each}
use Rattle.keep_token.specs.Leaves.{IsLeaf, Means}

letter_wider : (c : ℕ) → 0 < letter_value Strict c → 0 < letter_value Wide c
letter_wider c h = grind (arith, nat_tests)

count_wider : (c : ℕ) → 0 < digit_count Strict c → digit_count Wide c ≡ digit_count Strict c
count_wider c h = grind (arith, nat_tests)

escape_wider : (p : Piece) → IsEscape Strict p → IsEscape Wide p
escape_wider (Letter letter) h = letter_wider letter h
escape_wider (Number letter digits) h = let same = count_wider letter h.0 in (rw same h.0, h.1 ∙ sym same, h.2, h.3)
escape_wider (Plain byte) h = absurd h
escape_wider (Break newline) h = absurd h
escape_wider (LineEnd before newline after) h = absurd h

basic_wider : (p : Piece) → IsBasicPiece Strict p → IsBasicPiece Wide p
basic_wider (Plain byte) h = h
basic_wider (Letter letter) h = escape_wider (Letter letter) h
basic_wider (Number letter digits) h = escape_wider (Number letter digits) h
basic_wider (Break newline) h = h
basic_wider (LineEnd before newline after) h = h

ml_basic_wider : (p : Piece) → IsMlBasicPiece Strict p → IsMlBasicPiece Wide p
ml_basic_wider (Plain byte) h = h
ml_basic_wider (Letter letter) h = escape_wider (Letter letter) h
ml_basic_wider (Number letter digits) h = escape_wider (Number letter digits) h
ml_basic_wider (Break newline) h = h
ml_basic_wider (LineEnd before newline after) h = h

each_wider : (P Q : Piece → Type 0) → ((p : Piece) → P p → Q p) → (ps : List Piece) → Each P ps → Each Q ps
each_wider P Q f [] h = tt
each_wider P Q f (p ∷ ps) h = (f p h.0, each_wider P Q f ps h.1)

pub leaf_wider : (l : Leaf) (text : List ℕ) → IsLeaf Strict l text → IsLeaf Wide l text
leaf_wider leaf.Basic text (ps, h) = (
  ps,
  record {
    spelled = h.spelled;
    each = each_wider (IsBasicPiece Strict) (IsBasicPiece Wide) basic_wider ps h.each;
  },
)
leaf_wider leaf.MlBasic text (ps, h) = (
  ps,
  record {
    spelled = h.spelled;
    each = each_wider (IsMlBasicPiece Strict) (IsMlBasicPiece Wide) ml_basic_wider ps h.each;
    no_end = h.no_end;
    whole = h.whole;
  },
)
leaf_wider leaf.LocalTime text h = inl h
leaf_wider leaf.LocalDateTime text (a, b, e, date, (c, d, f, sep, time)) = (a, b, e, date, (c, d, f, sep, inl time))
leaf_wider leaf.OffsetDateTime text (x, o, g, (a, b, e, date, (c, d, f, sep, time)), off) =
    (x, o, g, (a, b, e, date, (c, d, f, sep, inl time)), off)
leaf_wider _ text h = h

-- What a string means in Strict it means in Wide.
pub means_wider : (l : Leaf) (text value : List ℕ) → Means Strict l text value → Means Wide l text value
means_wider leaf.Basic text value (ps, h, e) = (
  ps,
  record {
    spelled = h.spelled;
    each = each_wider (IsBasicPiece Strict) (IsBasicPiece Wide) basic_wider ps h.each;
  },
  e,
)
means_wider leaf.MlBasic text value (ps, h, e) = (
  ps,
  record {
    spelled = h.spelled;
    each = each_wider (IsMlBasicPiece Strict) (IsMlBasicPiece Wide) ml_basic_wider ps h.each;
    no_end = h.no_end;
    whole = h.whole;
  },
  e,
)
means_wider _ text value h = h
