-- The pieces of a string, found from the left. The laws in proofs/ tie them to the languages of strings.
use Rattle.std.specs.Prelude.{ℕ, zero, suc, ◌-◌, min, Bool, true, false, ◌&&◌, ◌||◌, ◌==◌, nat_lt, nat_le}
use Rattle.std.specs.Prelude.{if◌then◌else◌, List, [], ◌∷◌, length, take, drop, slice_index, Option, Some, None}
use Rattle.std.specs.List.{prefix_len, list_all}
use Rattle.std.specs.Char.{is_digit}
use Rattle.keep_types.specs.declared.leaf.Profile.{Profile}
use Rattle.keep_token.specs.Abnf.{is_ws}
use Rattle.keep_token.specs.Numbers.{sum_of_digits}
use Rattle.keep_token.specs.Strings.{Piece, Plain, Letter, Number, Break, LineEnd, piece_text, letter_value}
use Rattle.keep_token.specs.Strings.{digit_count, is_scalar, is_basic, is_literal, basic_text, literal_text}
use Rattle.keep_token.specs.Strings.{ml_basic_text, ml_literal_text}

-- the first byte, or 0
abbrev pub first : List ℕ → ℕ
first text = slice_index text 0

-- LF or CR LF at the start, with its length, or 0
abbrev pub newline_len : List ℕ → ℕ
newline_len text =
    if first text == 0x0A then 1
    else if first text == 0x0D && slice_index text 1 == 0x0A then 2
    else 0

-- how far tabs, spaces and newlines go
abbrev pub blank_len : List ℕ → ℕ
blank_len [] = 0
blank_len (c ∷ []) = if is_ws c || c == 0x0A then 1 else 0
blank_len (c ∷ d ∷ cs) =
    if is_ws c || c == 0x0A then suc (blank_len (d ∷ cs))
    else if c == 0x0D && d == 0x0A then suc (suc (blank_len cs))
    else 0

-- the number after a letter that asks for so many digits
abbrev pub number_at : ℕ → ℕ → List ℕ → Option Piece
number_at letter count text =
    let digits = take count text in
    if (length digits == count && list_all (λ c. is_digit c 16) digits) && is_scalar (sum_of_digits 16 digits)
    then Some (Number letter digits) else None

-- the escape whose backslash comes before the text
abbrev pub escape_at : Profile → List ℕ → Option Piece
escape_at profile [] = None
escape_at profile (c ∷ cs) =
    if nat_lt 0 (letter_value profile c) then Some (Letter c)
    else if nat_lt 0 (digit_count profile c) then number_at c (digit_count profile c) cs
    else None

-- the line-ending backslash that comes before the text
abbrev pub line_end_at : List ℕ → Option Piece
line_end_at text =
    let white = prefix_len is_ws text in
    let newline = newline_len (drop white text) in
    let after = drop newline (drop white text) in
    if newline == 0 then None else Some (LineEnd (take white text) (take newline (drop white text))
    (take (blank_len after) after))

abbrev pub or_else : Option Piece → Option Piece → Option Piece
or_else None other = other
or_else (Some piece) other = Some piece

-- the piece that begins the text, in each kind of string
abbrev pub basic_piece : Profile → List ℕ → Option Piece
basic_piece profile text =
    if first text == 0x5C then escape_at profile (drop 1 text)
    else if is_basic (first text) then Some (Plain (first text))
    else None

abbrev pub literal_piece : List ℕ → Option Piece
literal_piece text = if is_literal (first text) then Some (Plain (first text)) else None

abbrev pub break_at : List ℕ → Option Piece
break_at text = if newline_len text == 0 then None else Some (Break (take (newline_len text) text))

abbrev pub ml_basic_piece : Profile → List ℕ → Option Piece
ml_basic_piece profile text =
    if first text == 0x5C then or_else (escape_at profile (drop 1 text)) (line_end_at (drop 1 text))
    else if is_basic (first text) || first text == 0x22 then Some (Plain (first text))
    else break_at text

abbrev pub ml_literal_piece : List ℕ → Option Piece
ml_literal_piece text =
    if is_literal (first text) || first text == 0x27 then Some (Plain (first text)) else break_at text

abbrev pub before : Piece → Option (List Piece) → Option (List Piece)
before piece None = None
before piece (Some more) = Some (piece ∷ more)

abbrev pub some_of : ℕ → ℕ → List Piece
some_of zero mark = []
some_of (suc n) mark = Plain mark ∷ some_of n mark

-- The pieces up to the closing: one mark, or of three marks and more in a row the last three of at most five.
abbrev pub closes : Bool → ℕ → List ℕ → Option (List Piece)
closes false mark text = if first text == mark then Some [] else None
closes true mark text =
    let marks = prefix_len (λ c. c == mark) text in
    if nat_le 3 marks then Some (some_of (min marks 5 - 3) mark) else None

abbrev pub first_of : Option (List Piece) → Option (List Piece) → Option (List Piece)
first_of None other = other
first_of (Some pieces) other = Some pieces

abbrev pub onward : (List ℕ → Option (List Piece)) → List ℕ → Option Piece → Option (List Piece)
onward rest text None = None
onward rest text (Some piece) = before piece (rest (drop (length (piece_text piece)) text))

-- the pieces after the opening, in at most so many steps
abbrev pub pieces_by : ℕ → (List ℕ → Option Piece) → Bool → ℕ → List ℕ → Option (List Piece)
pieces_by zero piece many mark text = None
pieces_by (suc n) piece many mark text =
    first_of (closes many mark text) (onward (pieces_by n piece many mark) text (piece text))

-- a string has fewer pieces than bytes
abbrev pub pieces_of : (List ℕ → Option Piece) → Bool → ℕ → List ℕ → Option (List Piece)
pieces_of piece many mark text = pieces_by (suc (length text)) piece many mark text

-- the length of the string at the start of the text
abbrev pub len_of : (List Piece → List ℕ) → Option (List Piece) → Option ℕ
len_of spelled None = None
len_of spelled (Some pieces) = Some (length (spelled pieces))

abbrev pub basic_at : Profile → List ℕ → Option ℕ
basic_at profile text = len_of basic_text (pieces_of (basic_piece profile) false 0x22 (drop 1 text))

abbrev pub literal_at : List ℕ → Option ℕ
literal_at text = len_of literal_text (pieces_of literal_piece false 0x27 (drop 1 text))

abbrev pub ml_basic_at : Profile → List ℕ → Option ℕ
ml_basic_at profile text = len_of ml_basic_text (pieces_of (ml_basic_piece profile) true 0x22 (drop 3 text))

abbrev pub ml_literal_at : List ℕ → Option ℕ
ml_literal_at text = len_of ml_literal_text (pieces_of ml_literal_piece true 0x27 (drop 3 text))
