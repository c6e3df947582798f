-- How a text ends, and what an append writes there.
use Rattle.std.specs.Prelude.{ℕ, Bool, true, false, ◌&&◌, ◌==◌, if◌then◌else◌, List, [], ◌∷◌, ◌++◌}

-- the last byte is a line feed, as it is exactly after a newline
abbrev pub ends_in_newline : List ℕ → Bool
ends_in_newline [] = false
ends_in_newline (c ∷ []) = c == 0x0A
ends_in_newline (c ∷ d ∷ cs) = ends_in_newline (d ∷ cs)

-- no text but for a byte order mark
abbrev pub is_bare_start : List ℕ → Bool
is_bare_start [] = true
is_bare_start (a ∷ b ∷ c ∷ []) = (a == 0xEF && b == 0xBB) && c == 0xBF
is_bare_start _ = false

-- what ends the last line of a text, if it has no newline, and leaves a line blank; nothing where no line is
abbrev pub blank_line : List ℕ → List ℕ → List ℕ
blank_line text newline =
    if is_bare_start text then []
    else if ends_in_newline text then newline
    else newline ++ newline

-- a header put in at the end of a text, with the document's newline
abbrev pub header_at_end : List ℕ → List ℕ → List ℕ → List ℕ
header_at_end text newline header = blank_line text newline ++ (header ++ newline)
