-- Bytes that are looked at together. Only private clauses cite this.
use Rattle.std.specs.Prelude.{ℕ, Bool, not, ◌&&◌, ◌||◌, ◌==◌}
use Rattle.std.specs.Char.{is_ascii_digit}
use Rattle.keep_token.specs.Abnf.{is_comment, is_ws}

-- a byte of a comment, or one more, that is none of two marks
abbrev pub is_plain : ℕ → ℕ → ℕ → ℕ → Bool
is_plain also a b c = (is_comment c || c == also) && not (c == a || c == b)

-- a byte at which a run of the others has ended
abbrev pub ends_run : ℕ → ℕ → ℕ → ℕ → Bool
ends_run also a b c = not (is_plain also a b c)

-- a byte that is no digit
abbrev pub is_non_digit : ℕ → Bool
is_non_digit c = not (is_ascii_digit c)

-- a byte that is no white space
abbrev pub is_non_ws : ℕ → Bool
is_non_ws c = not (is_ws c)
