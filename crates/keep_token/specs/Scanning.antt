-- The leaf that begins a text, found from the left: its kind and its length. The laws in proofs/ say that it is the
-- leaf of Leaves.antt.
use Rattle.std.specs.Prelude.{◌≡◌, ℕ, ◌+◌, Bool, not, ◌&&◌, ◌||◌, ◌==◌, if◌then◌else◌, List, take, drop, slice_index}
use Rattle.std.specs.Prelude.{Option, Some, None, Result, Ok, Err}
use Rattle.std.specs.List.{prefix_len}
use Rattle.std.specs.Char.{is_ascii_digit}
use Rattle.keep_token.specs.declared.fault.LeafFault.{LeafFault}
use Rattle.keep_types.specs.declared.leaf.Profile.{Profile}
use Rattle.keep_types.specs.declared.leaf.Leaf.{Leaf}
use Rattle.keep_types.specs.declared.leaf.Leaf.TheVariants as leaf
use Rattle.keep_token.specs.Abnf.{is_ws, is_comment, is_bare, is_word}
use Rattle.keep_token.specs.Leaves.{word_len}
use Rattle.keep_token.specs.Words.{word_leaf}
pub use Rattle.keep_token.specs.Pieces.{first}
use Rattle.keep_token.specs.Pieces.{basic_at, literal_at, ml_basic_at, ml_literal_at}

abbrev pub with_kind : Leaf → Option ℕ → Option (Leaf × ℕ)
with_kind leaf None = None
with_kind leaf (Some n) = Some (leaf, n)

abbrev pub with_len : Option Leaf → ℕ → Option (Leaf × ℕ)
with_len None n = None
with_len (Some leaf) n = Some (leaf, n)

-- in a gap
unfoldable pub gap_at : List ℕ → Option (Leaf × ℕ)
gap_at text =
    if is_ws (first text) then Some (leaf.Ws, prefix_len is_ws text)
    else if first text == 0x0A then Some (leaf.Newline, 1)
    else if first text == 0x0D && slice_index text 1 == 0x0A then Some (leaf.Newline, 2)
    else if first text == 0x23 then Some (leaf.Comment, 1 + prefix_len is_comment (drop 1 text))
    else None

-- in the place of a key part
unfoldable pub key_at : Profile → List ℕ → Option (Leaf × ℕ)
key_at profile text =
    if is_bare (first text) then Some (leaf.BareKey, prefix_len is_bare text)
    else if first text == 0x22 then with_kind leaf.Basic (basic_at profile text)
    else if first text == 0x27 then with_kind leaf.Literal (literal_at text)
    else None

-- three of the mark come first
abbrev pub are_three : ℕ → List ℕ → Bool
are_three mark text = (first text == mark && slice_index text 1 == mark) && slice_index text 2 == mark

-- in the place of a scalar
unfoldable pub scalar_at : Profile → List ℕ → Option (Leaf × ℕ)
scalar_at profile text =
    if are_three 0x22 text then with_kind leaf.MlBasic (ml_basic_at profile text)
    else if are_three 0x27 text then with_kind leaf.MlLiteral (ml_literal_at text)
    else if first text == 0x22 then with_kind leaf.Basic (basic_at profile text)
    else if first text == 0x27 then with_kind leaf.Literal (literal_at text)
    else with_len (word_leaf profile (take (word_len text) text)) (word_len text)

-- Whether a scalar that ends before this text is found again there: no byte continues with it, and no time of day
-- follows.
abbrev pub may_follow_scalar : List ℕ → Bool
may_follow_scalar rest =
    not ((is_word (first rest) || first rest == 0x22) || first rest == 0x27)
    && not (first rest == 0x20 && is_ascii_digit (slice_index rest 1))

-- a leaf of so many bytes, at a place
abbrev pub moved : ℕ → Option (Leaf × ℕ) → Option (Leaf × ℕ)
moved at None = None
moved at (Some (leaf, n)) = Some (leaf, at + n)

-- a scan finds this leaf, or none
abbrev pub Scans : Result (Leaf × ℕ) LeafFault → Option (Leaf × ℕ) → Type 0
Scans (Ok r) o = o ≡ Some r
Scans (Err e) o = o ≡ None
