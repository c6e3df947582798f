-- The kind of scalar that a word is, by tests that compute. The laws in proofs/ tie each test to its language.
use Rattle.std.specs.Prelude.{ℕ, ◌+◌, ◌-◌, ◌*◌, Bool, true, false, not, ◌&&◌, ◌||◌, ◌==◌, nat_lt, nat_le, if◌then◌else◌}
use Rattle.std.specs.Prelude.{List, [], ◌∷◌, length, take, drop, slice_index, Option, Some, None}
use Rattle.std.specs.List.{prefix_len, list_all}
use Rattle.std.specs.Char.{is_ascii_digit}
use Rattle.keep_types.specs.declared.leaf.Profile.{Profile}
use Rattle.keep_types.specs.declared.leaf.Profile.TheVariants.{Wide}
use Rattle.keep_types.specs.declared.leaf.Leaf.{Leaf}
use Rattle.keep_types.specs.declared.leaf.Leaf.TheVariants as leaf
use Rattle.keep_token.specs.Numbers.{is_decimal, is_digits, is_in_base, is_sign, integer_value}
use Rattle.keep_token.specs.Dates.{month_length}
use Rattle.keep_token.specs.Leaves.{has_date_shape}
use lib.Signed.{mag}

-- ---- integers

-- the prefix of a base, and digits
abbrev pub is_prefixed : ℕ → ℕ → List ℕ → Bool
is_prefixed base letter [] = false
is_prefixed base letter (z ∷ []) = false
is_prefixed base letter (z ∷ x ∷ ds) = (z == 0x30 && x == letter) && is_digits (is_in_base base) ds

abbrev pub is_integer_text : List ℕ → Bool
is_integer_text t = is_decimal t || (is_prefixed 16 0x78 t || (is_prefixed 8 0x6F t || is_prefixed 2 0x62 t))

-- in 64 bits with a sign
abbrev pub is_integer : List ℕ → Bool
is_integer t = is_integer_text t && nat_lt (mag (integer_value t)) 0x8000_0000_0000_0000

-- a decimal number of at most 18 digits without underscores, the first of them no 0
abbrev pub is_short_decimal : List ℕ → Bool
is_short_decimal [] = false
is_short_decimal (d ∷ ds) = not (d == 0x30) && (nat_le (length (d ∷ ds)) 18 && list_all is_ascii_digit (d ∷ ds))

-- ---- floats

abbrev pub is_e : ℕ → Bool
is_e c = c == 0x65 || c == 0x45

abbrev pub is_whole : ℕ → Bool
is_whole c = not (c == 0x2E || is_e c)

abbrev pub is_part : ℕ → Bool
is_part c = not (is_e c)

abbrev pub is_signed_digits : List ℕ → Bool
is_signed_digits [] = false
is_signed_digits (c ∷ cs) = if is_sign c then (is_digits is_ascii_digit cs) else (is_digits is_ascii_digit (c ∷ cs))

abbrev pub is_exponent : List ℕ → Bool
is_exponent [] = false
is_exponent (c ∷ cs) = is_e c && is_signed_digits cs

-- nothing, or an exponent
abbrev pub is_maybe_exponent : List ℕ → Bool
is_maybe_exponent [] = true
is_maybe_exponent (c ∷ cs) = is_exponent (c ∷ cs)

-- digits and an exponent
abbrev pub has_exponent : List ℕ → Bool
has_exponent t =
    is_digits is_ascii_digit (take (prefix_len is_part t) t) && is_exponent (drop (prefix_len is_part t) t)

abbrev pub is_fraction : List ℕ → Bool
is_fraction [] = false
is_fraction (c ∷ cs) =
    c == 0x2E && (is_digits is_ascii_digit (take (prefix_len is_part cs) cs)
    && is_maybe_exponent (drop (prefix_len is_part cs) cs))

abbrev pub is_number : List ℕ → Bool
is_number t =
    is_decimal (take (prefix_len is_whole t) t)
    && (is_exponent (drop (prefix_len is_whole t) t) || is_fraction (drop (prefix_len is_whole t) t))

abbrev pub is_three : List ℕ → Bool
is_three (a ∷ b ∷ c ∷ []) = ((a == 0x69 && b == 0x6E) && c == 0x66) || ((a == 0x6E && b == 0x61) && c == 0x6E)
is_three _ = false

abbrev pub is_special : List ℕ → Bool
is_special [] = false
is_special (c ∷ cs) = if is_sign c then (is_three cs) else (is_three (c ∷ cs))

abbrev pub is_float : List ℕ → Bool
is_float t = is_number t || is_special t

-- ---- truth values

abbrev pub is_boolean : List ℕ → Bool
is_boolean (a ∷ b ∷ c ∷ d ∷ []) = ((a == 0x74 && b == 0x72) && c == 0x75) && d == 0x65
is_boolean (a ∷ b ∷ c ∷ d ∷ e ∷ []) = (((a == 0x66 && b == 0x61) && c == 0x6C) && d == 0x73) && e == 0x65
is_boolean _ = false

-- ---- dates and times

-- the number that two digits write
abbrev pub pair : ℕ → ℕ → ℕ
pair a b = (a - 48) * 10 + (b - 48)

-- the calendar has this day
abbrev pub is_day : ℕ → ℕ → ℕ → Bool
is_day year month day = (nat_le 1 month && nat_le month 12) && (nat_le 1 day && nat_le day (month_length year month))

abbrev pub is_date : List ℕ → Bool
is_date (a ∷ b ∷ c ∷ d ∷ e ∷ f ∷ g ∷ h ∷ i ∷ j ∷ []) =
    has_date_shape (a ∷ b ∷ c ∷ d ∷ e ∷ f ∷ g ∷ h ∷ i ∷ j ∷ [])
    && is_day (pair a b * 100 + pair c d) (pair f g) (pair i j)
is_date _ = false

abbrev pub is_minutes : List ℕ → Bool
is_minutes (a ∷ b ∷ c ∷ d ∷ e ∷ []) =
    (((is_ascii_digit a && is_ascii_digit b) && c == 0x3A) && (is_ascii_digit d && is_ascii_digit e))
    && (nat_lt (pair a b) 24 && nat_lt (pair d e) 60)
is_minutes _ = false

-- :ss
abbrev pub is_seconds : ℕ → ℕ → ℕ → Bool
is_seconds a b c = ((a == 0x3A && is_ascii_digit b) && is_ascii_digit c) && nat_le (pair b c) 60

abbrev pub is_second_fraction : List ℕ → Bool
is_second_fraction [] = true
is_second_fraction (c ∷ []) = false
is_second_fraction (c ∷ d ∷ ds) = c == 0x2E && list_all is_ascii_digit (d ∷ ds)

-- what comes after hh:mm
abbrev pub is_time_end : List ℕ → Bool
is_time_end (a ∷ b ∷ c ∷ more) = is_seconds a b c && is_second_fraction more
is_time_end _ = false

abbrev pub is_short : Profile → List ℕ → Bool
is_short Wide [] = true
is_short _ _ = false

abbrev pub is_time : Profile → List ℕ → Bool
is_time profile t = is_minutes (take 5 t) && (is_time_end (drop 5 t) || is_short profile (drop 5 t))

abbrev pub is_between_date_and_time : ℕ → Bool
is_between_date_and_time c = (c == 0x54 || c == 0x74) || c == 0x20

abbrev pub is_date_time : Profile → List ℕ → Bool
is_date_time profile t =
    is_date (take 10 t) && (is_between_date_and_time (slice_index t 10) && is_time profile (drop 11 t))

abbrev pub is_zulu : ℕ → Bool
is_zulu c = c == 0x5A || c == 0x7A

-- Z after a date and a time
abbrev pub ends_in_zulu : Profile → List ℕ → Bool
ends_in_zulu profile t = is_zulu (slice_index t (length t - 1)) && is_date_time profile (take (length t - 1) t)

-- a sign, hours and minutes after a date and a time
abbrev pub ends_in_minutes : Profile → List ℕ → Bool
ends_in_minutes profile t =
    (is_sign (slice_index t (length t - 6)) && is_minutes (drop (length t - 5) t))
    && is_date_time profile (take (length t - 6) t)

abbrev pub is_offset_date_time : Profile → List ℕ → Bool
is_offset_date_time profile t = ends_in_zulu profile t || ends_in_minutes profile t

-- ---- all kinds without quotation marks

unfoldable pub word_leaf : Profile → List ℕ → Option Leaf
word_leaf profile t =
    if is_integer t then Some leaf.Integer
    else if is_float t then Some leaf.Float
    else if is_boolean t then Some leaf.Boolean
    else if is_date t then Some leaf.LocalDate
    else if is_time profile t then Some leaf.LocalTime
    else if is_date_time profile t then Some leaf.LocalDateTime
    else if is_offset_date_time profile t then Some leaf.OffsetDateTime
    else None
