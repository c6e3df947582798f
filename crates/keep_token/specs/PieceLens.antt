-- The lengths of the pieces that are found.
use Rattle.std.specs.Prelude.{◌≡◌, ℕ, length, Option, Some, None, encode_utf8}
use Rattle.keep_token.specs.declared.escape.Escape.{Escape}
use Rattle.keep_token.specs.Strings.{Piece, piece_text, piece_value}

abbrev pub piece_len : Option Piece → Option ℕ
piece_len None = None
piece_len (Some piece) = Some (length (piece_text piece))

-- an escape is found, with its length and its character, or none
abbrev pub IsEscape : Option Escape → Option Piece → Type 0
IsEscape None found = found ≡ None
IsEscape (Some escape) found =
    (piece : Piece) × (found ≡ Some piece) × (escape.len ≡ length (piece_text piece))
    × (encode_utf8 escape.value ≡ piece_value piece)
