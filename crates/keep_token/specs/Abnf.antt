-- Sets of texts, put together as the rules of ABNF are. A text is a list of bytes.
use Rattle.std.specs.Prelude.{◌≡◌, ℕ, ◌<◌, ◌≤◌, Bool, ◌&&◌, ◌||◌, ◌==◌, nat_le, IsTrue, List, [], ◌∷◌, ◌++◌, length}
use Rattle.std.specs.Prelude.{take, ◌⊎◌}
use Rattle.std.specs.List.{list_all}
use Rattle.std.specs.Char.{is_ascii_alphanumeric}

abbrev pub Language : Type 1
Language = List ℕ → Type 0

-- this text alone
abbrev pub Just : List ℕ → Language
Just word text = text ≡ word

-- a rule and then another
infixr 6 ◌⨾◌
abbrev pub ◌⨾◌ : Language → Language → Language
(A ⨾ B) text = (a : List ℕ) × (b : List ℕ) × (text ≡ a ++ b) × A a × B b

-- A / B
infixr 5 ◌or◌
abbrev pub ◌or◌ : Language → Language → Language
(A or B) text = A text ⊎ B text

-- [ A ]
abbrev pub Maybe : Language → Language
Maybe A = Just [] or A

-- one byte of a class
abbrev pub One : (ℕ → Bool) → Language
One class text = (c : ℕ) × (text ≡ c ∷ []) × IsTrue (class c)

-- 1*class
abbrev pub Some1 : (ℕ → Bool) → Language
Some1 class text = (0 < length text) × IsTrue (list_all class text)

-- *class
abbrev pub Any : (ℕ → Bool) → Language
Any class text = IsTrue (list_all class text)

-- %xFROM-TO
abbrev pub between : ℕ → ℕ → ℕ → Bool
between from to c = nat_le from c && nat_le c to

-- wschar: a tab or a space
abbrev pub is_ws : ℕ → Bool
is_ws c = c == 0x20 || c == 0x09

-- The bytes of characters past ASCII. The whole text is well-formed UTF-8, and leaves end at bytes below 0x80.
abbrev pub is_nonascii : ℕ → Bool
is_nonascii c = between 0x80 0xFF c

-- a byte of a comment: 0x7F is refused
abbrev pub is_comment : ℕ → Bool
is_comment c = (c == 0x09 || between 0x20 0x7E c) || is_nonascii c

-- a byte of unquoted-key: ALPHA / DIGIT / - / _
abbrev pub is_bare : ℕ → Bool
is_bare c = (is_ascii_alphanumeric c || c == 0x2D) || c == 0x5F

-- a byte of a number, a date, a time or a truth value
abbrev pub is_word : ℕ → Bool
is_word c = ((is_bare c || c == 0x2B) || c == 0x2E) || c == 0x3A

-- newline
abbrev pub Newline : Language
Newline = Just (0x0A ∷ []) or Just (0x0D ∷ 0x0A ∷ [])

-- The longest prefix of the text that is in the language has n bytes.
pub record Longest (A : Language) (text : List ℕ) (n : ℕ) : Type 0 where
  pub within : n ≤ length text
  pub belongs : A (take n text)
  pub longest : (m : ℕ) → m ≤ length text → A (take m text) → m ≤ n
