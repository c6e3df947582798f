-- The steps of writing a basic string, by tests that compute. The law in proofs/ ties them to `encoded_byte`.
use Rattle.std.specs.Prelude.{ℕ, ◌/◌, ◌%◌, Bool, not, ◌&&◌, nat_lt, ◌==◌, if◌then◌else◌, List, [], ◌∷◌, ◌++◌, codes}
use Rattle.std.specs.Prelude.{Option, Some, None}
use Rattle.keep_token.specs.Encoded.{digit}

-- the byte is written as it is
abbrev pub is_plain : ℕ → Bool
is_plain c = ((not (nat_lt c 0x20) && not (c == 0x22)) && not (c == 0x5C)) && not (c == 0x7F)

-- the escape by a letter
abbrev pub short_escape : ℕ → Option (List ℕ)
short_escape c =
    if c == 0x22 then Some (codes "\\\"")
    else if c == 0x5C then Some (codes "\\\\")
    else if c == 0x08 then Some (codes "\\b")
    else if c == 0x09 then Some (codes "\\t")
    else if c == 0x0A then Some (codes "\\n")
    else if c == 0x0C then Some (codes "\\f")
    else if c == 0x0D then Some (codes "\\r")
    else None

-- the escape by the byte's number
abbrev pub escape_by_number : ℕ → List ℕ
escape_by_number c = codes "\\u00" ++ (digit (c / 16) ∷ digit (c % 16) ∷ [])
