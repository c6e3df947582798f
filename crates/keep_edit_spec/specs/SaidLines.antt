-- Lines of a text that say something, by their bytes.
use Rattle.std.specs.Prelude.{◌≡◌, ℕ, suc, ◌+◌, ◌==◌, Bool, false, not, ◌||◌, List, ◌∷◌, length, take, drop}
use Rattle.std.specs.List.{prefix_len}
use Rattle.keep_token.specs.Abnf.{is_ws}
use Rattle.keep_token.specs.Pieces.{first}

-- the byte begins a comment or a newline
abbrev pub begins_nothing : ℕ → Bool
begins_nothing byte = (byte == 0x23) || ((byte == 0x0A) || (byte == 0x0D))

abbrev pub is_in_line : ℕ → Bool
is_in_line byte = not (byte == 0x0A)

-- A line with its line feed, which is the last byte and the only one: behind its white space is neither a comment nor a
-- newline.
pub record IsSaid (line : List ℕ) : Type 0 where
  pub begins : begins_nothing (first (drop (prefix_len is_ws line) line)) ≡ false
  pub ends : suc (prefix_len is_in_line line) ≡ length line

-- The bytes up to this one are such a line, and a line feed before it.
pub record SaysBefore (bytes : List ℕ) (at : ℕ) : Type 0 where
  pub from : ℕ
  pub line : List ℕ
  pub ends : from + suc (length line) ≡ at
  pub is : take (suc (length line)) (drop from bytes) ≡ 0x0A ∷ line
  pub said : IsSaid line
