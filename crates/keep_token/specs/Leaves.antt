-- The texts of each kind of leaf, the leaf at a place, and what a string leaf means.
use Rattle.std.specs.Prelude.{◌≡◌, ℕ, ◌+◌, ◌≤◌, Bool, length, true, false, ◌&&◌, ◌||◌, ◌==◌, if◌then◌else◌, IsTrue}
use Rattle.std.specs.Prelude.{List, [], ◌∷◌, take, drop, slice_index, ◌⊎◌}
use Rattle.std.specs.List.{prefix_len, list_all}
use Rattle.std.specs.Char.{is_ascii_digit}
use Rattle.keep_types.specs.declared.leaf.Profile.{Profile}
use Rattle.keep_types.specs.declared.leaf.Profile.TheVariants.{Strict}
use Rattle.keep_types.specs.declared.leaf.Leaf.{Leaf}
use Rattle.keep_types.specs.declared.leaf.Leaf.TheVariants as leaf
use Rattle.keep_token.specs.Abnf.{Language, Just, ◌⨾◌, Some1, Any, is_ws, is_comment, is_bare, is_word, Newline}
use Rattle.keep_token.specs.Abnf.{Longest}
use Rattle.keep_token.specs.Strings.{Basic, Literal, MlBasic, MlLiteral, IsBasicOf, IsLiteralOf, IsMlBasicOf}
use Rattle.keep_token.specs.Strings.{IsMlLiteralOf, Piece, value_of, ml_value_of}
use Rattle.keep_token.specs.Numbers.{Integer, Float, Boolean}
use Rattle.keep_token.specs.Dates.{LocalDate, LocalTime, LocalDateTime, OffsetDateTime}

-- the texts of each kind of leaf
abbrev pub IsLeaf : Profile → Leaf → Language
IsLeaf profile leaf.Bom = Just (0xEF ∷ 0xBB ∷ 0xBF ∷ [])
IsLeaf profile leaf.Ws = Some1 is_ws
IsLeaf profile leaf.Newline = Newline
IsLeaf profile leaf.Comment = Just (0x23 ∷ []) ⨾ Any is_comment
IsLeaf profile leaf.BareKey = Some1 is_bare
IsLeaf profile leaf.Basic = Basic profile
IsLeaf profile leaf.Literal = Literal
IsLeaf profile leaf.MlBasic = MlBasic profile
IsLeaf profile leaf.MlLiteral = MlLiteral
IsLeaf profile leaf.Integer = Integer
IsLeaf profile leaf.Float = Float
IsLeaf profile leaf.Boolean = Boolean
IsLeaf profile leaf.OffsetDateTime = OffsetDateTime profile
IsLeaf profile leaf.LocalDateTime = LocalDateTime profile
IsLeaf profile leaf.LocalDate = LocalDate
IsLeaf profile leaf.LocalTime = LocalTime profile
IsLeaf profile leaf.Equals = Just (0x3D ∷ [])
IsLeaf profile leaf.Dot = Just (0x2E ∷ [])
IsLeaf profile leaf.Comma = Just (0x2C ∷ [])
IsLeaf profile leaf.HeadOpen = Just (0x5B ∷ [])
IsLeaf profile leaf.HeadClose = Just (0x5D ∷ [])
IsLeaf profile leaf.ElemOpen = Just (0x5B ∷ 0x5B ∷ [])
IsLeaf profile leaf.ElemClose = Just (0x5D ∷ 0x5D ∷ [])
IsLeaf profile leaf.ArrayOpen = Just (0x5B ∷ [])
IsLeaf profile leaf.ArrayClose = Just (0x5D ∷ [])
IsLeaf profile leaf.InlineOpen = Just (0x7B ∷ [])
IsLeaf profile leaf.InlineClose = Just (0x7D ∷ [])
IsLeaf profile leaf.End = Just []

-- where a leaf is asked for
abbrev pub is_gap_leaf : Leaf → Bool
is_gap_leaf leaf.Ws = true
is_gap_leaf leaf.Newline = true
is_gap_leaf leaf.Comment = true
is_gap_leaf _ = false

abbrev pub is_key_leaf : Leaf → Bool
is_key_leaf leaf.BareKey = true
is_key_leaf leaf.Basic = true
is_key_leaf leaf.Literal = true
is_key_leaf _ = false

-- a scalar that has no quotation marks: one word
abbrev pub is_word_leaf : Leaf → Bool
is_word_leaf leaf.Integer = true
is_word_leaf leaf.Float = true
is_word_leaf leaf.Boolean = true
is_word_leaf leaf.OffsetDateTime = true
is_word_leaf leaf.LocalDateTime = true
is_word_leaf leaf.LocalDate = true
is_word_leaf leaf.LocalTime = true
is_word_leaf _ = false

abbrev pub is_one_line : Leaf → Bool
is_one_line leaf.Basic = true
is_one_line leaf.Literal = true
is_one_line _ = false

abbrev pub is_many_lines : Leaf → Bool
is_many_lines leaf.MlBasic = true
is_many_lines leaf.MlLiteral = true
is_many_lines _ = false

-- a key part, or a string
abbrev pub is_string_leaf : Leaf → Bool
is_string_leaf l = is_key_leaf l || is_many_lines l

abbrev pub is_scalar_leaf : Leaf → Bool
is_scalar_leaf l = (is_word_leaf l || is_one_line l) || is_many_lines l

-- dddd-dd-dd
abbrev pub has_date_shape : List ℕ → Bool
has_date_shape (a ∷ b ∷ c ∷ d ∷ e ∷ f ∷ g ∷ h ∷ i ∷ j ∷ []) =
    ((list_all is_ascii_digit (a ∷ b ∷ c ∷ d ∷ []) && e == 0x2D) && list_all is_ascii_digit (f ∷ g ∷ []))
    && (h == 0x2D && list_all is_ascii_digit (i ∷ j ∷ []))
has_date_shape _ = false

-- How long the word at the start is: the longest run of its bytes, and after a full date, a space and a digit the next
-- run too.
abbrev pub word_len : List ℕ → ℕ
word_len text =
    let run = prefix_len is_word text in
    if has_date_shape (take run text) && (slice_index text run == 0x20 && is_ascii_digit (slice_index text (run + 1)))
    then run + 1 + prefix_len is_word (drop (run + 1) text) else run

-- three quotation marks or apostrophes
abbrev pub opens_many_lines : List ℕ → Type 0
opens_many_lines text = (take 3 text ≡ 0x22 ∷ 0x22 ∷ 0x22 ∷ []) ⊎ (take 3 text ≡ 0x27 ∷ 0x27 ∷ 0x27 ∷ [])

-- The leaf that begins at the start of the text, n bytes long: in a gap, in the place of a key part, of a scalar.
pub record GapLeaf (text : List ℕ) (l : Leaf) (n : ℕ) : Type 0 where
  pub kind : IsTrue (is_gap_leaf l)
  pub leaf : Longest (IsLeaf Strict l) text n

pub record KeyLeaf (profile : Profile) (text : List ℕ) (l : Leaf) (n : ℕ) : Type 0 where
  pub kind : IsTrue (is_key_leaf l)
  pub leaf : Longest (IsLeaf profile l) text n

pub record ScalarLeaf (profile : Profile) (text : List ℕ) (l : Leaf) (n : ℕ) : Type 0 where
  pub kind : IsTrue (is_scalar_leaf l)
  pub within : n ≤ length text
  pub belongs : IsLeaf profile l (take n text)
  -- a scalar without quotation marks is the whole word
  pub word : IsTrue (is_word_leaf l) → n ≡ word_len text
  -- three quotation marks or apostrophes begin a multi-line kind only
  pub one_line : IsTrue (is_one_line l) → opens_many_lines text → ⊥
  -- a string over many lines goes as far as it can
  pub longest : IsTrue (is_many_lines l) → (m : ℕ) → m ≤ length text → IsLeaf profile l (take m text) → m ≤ n

-- a string leaf, or a key part, means these bytes
abbrev pub Means : Profile → Leaf → List ℕ → List ℕ → Type 0
Means profile leaf.BareKey text value = value ≡ text
Means profile leaf.Basic text value = (pieces : List Piece) × IsBasicOf profile text pieces × (value ≡ value_of pieces)
Means profile leaf.Literal text value = (pieces : List Piece) × IsLiteralOf text pieces × (value ≡ value_of pieces)
Means profile leaf.MlBasic text value =
    (pieces : List Piece) × IsMlBasicOf profile text pieces × (value ≡ ml_value_of pieces)
Means profile leaf.MlLiteral text value =
    (pieces : List Piece) × IsMlLiteralOf text pieces × (value ≡ ml_value_of pieces)
Means profile _ text value = ⊥
