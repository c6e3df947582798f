-- Dates and times that are accepted, with their kinds, and words that are refused.
--
-- Each row is a theorem of its own, and none needs an induction. A text is accepted by writing out the numbers that are
-- written in it, with their bounds. Its kind is what `word_leaf` computes, in both profiles (`IsIn`), or of a short
-- time in Wide alone. A text is refused where all four tests compute to false: by the laws of `DateLaws` it is then no
-- date and no time (`refused`), and `word_leaf` finds no other word there either. The last rows compute how far a word
-- reaches in a longer text (`word_len`).
use Rattle.std.proofs.Common.{◌≡◌, List, [], refl, inl, inr, arith, Some, None, ℕ, false}
use Rattle.std.specs.Prelude.{codes}
use Rattle.keep_types.specs.declared.leaf.Profile.{Profile}
use Rattle.keep_types.specs.declared.leaf.Profile.TheVariants.{Strict, Wide}
use Rattle.keep_types.specs.declared.leaf.Leaf.{Leaf}
use Rattle.keep_types.specs.declared.leaf.Leaf.TheVariants as leaf
use Rattle.keep_token.specs.Dates.{LocalDate, LocalTime, LocalDateTime, OffsetDateTime}
use Rattle.keep_token.specs.Leaves.{IsLeaf, ScalarLeaf, word_len}
use Rattle.keep_token.specs.Words.{is_date, is_time, is_date_time, is_offset_date_time, word_leaf}
use Rattle.keep_token.proofs.DateLaws.{date_to, time_to, date_time_to, offset_date_time_to}

-- the word is of this kind in both profiles
abbrev IsIn : Leaf → List ℕ → Type 0
IsIn kind t = (word_leaf Strict t ≡ Some kind) × (word_leaf Wide t ≡ Some kind)

-- ---- accepted by the numbers that they write

day : IsLeaf Strict leaf.LocalDate (codes "1979-05-27")
day = (1979, 5, 27, omega arith, omega arith, omega arith, omega arith, omega arith, refl)

leap_0000 : IsLeaf Strict leaf.LocalDate (codes "0000-02-29")
leap_0000 = (0, 2, 29, omega arith, omega arith, omega arith, omega arith, omega arith, refl)

leap_2000 : IsLeaf Strict leaf.LocalDate (codes "2000-02-29")
leap_2000 = (2000, 2, 29, omega arith, omega arith, omega arith, omega arith, omega arith, refl)

leap_2024 : IsLeaf Strict leaf.LocalDate (codes "2024-02-29")
leap_2024 = (2024, 2, 29, omega arith, omega arith, omega arith, omega arith, omega arith, refl)

first_day : IsLeaf Strict leaf.LocalDate (codes "0000-01-01")
first_day = (0, 1, 1, omega arith, omega arith, omega arith, omega arith, omega arith, refl)

last_day : IsLeaf Strict leaf.LocalDate (codes "9999-12-31")
last_day = (9999, 12, 31, omega arith, omega arith, omega arith, omega arith, omega arith, refl)

time : IsLeaf Strict leaf.LocalTime (codes "07:32:00")
time = (
  codes "07:32:00",
  [],
  refl,
  (codes "07:32", codes ":00", refl, (7, 32, omega arith, omega arith, refl), (0, omega arith, refl)),
  inl refl,
)

midnight : IsLeaf Strict leaf.LocalTime (codes "00:00:00")
midnight = (
  codes "00:00:00",
  [],
  refl,
  (codes "00:00", codes ":00", refl, (0, 0, omega arith, omega arith, refl), (0, omega arith, refl)),
  inl refl,
)

leap_second : IsLeaf Strict leaf.LocalTime (codes "00:00:60")
leap_second = (
  codes "00:00:60",
  [],
  refl,
  (codes "00:00", codes ":60", refl, (0, 0, omega arith, omega arith, refl), (60, omega arith, refl)),
  inl refl,
)

fraction_nought : IsLeaf Strict leaf.LocalTime (codes "23:59:59.0")
fraction_nought = (
  codes "23:59:59",
  codes ".0",
  refl,
  (codes "23:59", codes ":59", refl, (23, 59, omega arith, omega arith, refl), (59, omega arith, refl)),
  inr (codes ".", codes "0", refl, refl, (omega arith, refl)),
)

fraction_six : IsLeaf Strict leaf.LocalTime (codes "00:32:00.999999")
fraction_six = (
  codes "00:32:00",
  codes ".999999",
  refl,
  (codes "00:32", codes ":00", refl, (0, 32, omega arith, omega arith, refl), (0, omega arith, refl)),
  inr (codes ".", codes "999999", refl, refl, (omega arith, refl)),
)

fraction_long : IsLeaf Strict leaf.LocalTime (codes "00:32:00.123456789012345")
fraction_long = (
  codes "00:32:00",
  codes ".123456789012345",
  refl,
  (codes "00:32", codes ":00", refl, (0, 32, omega arith, omega arith, refl), (0, omega arith, refl)),
  inr (codes ".", codes "123456789012345", refl, refl, (omega arith, refl)),
)

at_t : IsLeaf Strict leaf.LocalDateTime (codes "1979-05-27T07:32:00")
at_t = (
  codes "1979-05-27",
  codes "T07:32:00",
  refl,
  (1979, 5, 27, omega arith, omega arith, omega arith, omega arith, omega arith, refl),
  (
    codes "T",
    codes "07:32:00",
    refl,
    (0x54, refl, refl),
    (
      codes "07:32:00",
      [],
      refl,
      (codes "07:32", codes ":00", refl, (7, 32, omega arith, omega arith, refl), (0, omega arith, refl)),
      inl refl,
    ),
  ),
)

at_small_t : IsLeaf Strict leaf.LocalDateTime (codes "1979-05-27t07:32:00")
at_small_t = (
  codes "1979-05-27",
  codes "t07:32:00",
  refl,
  (1979, 5, 27, omega arith, omega arith, omega arith, omega arith, omega arith, refl),
  (
    codes "t",
    codes "07:32:00",
    refl,
    (0x74, refl, refl),
    (
      codes "07:32:00",
      [],
      refl,
      (codes "07:32", codes ":00", refl, (7, 32, omega arith, omega arith, refl), (0, omega arith, refl)),
      inl refl,
    ),
  ),
)

at_space : IsLeaf Strict leaf.LocalDateTime (codes "1979-05-27 07:32:00")
at_space = (
  codes "1979-05-27",
  codes " 07:32:00",
  refl,
  (1979, 5, 27, omega arith, omega arith, omega arith, omega arith, omega arith, refl),
  (
    codes " ",
    codes "07:32:00",
    refl,
    (0x20, refl, refl),
    (
      codes "07:32:00",
      [],
      refl,
      (codes "07:32", codes ":00", refl, (7, 32, omega arith, omega arith, refl), (0, omega arith, refl)),
      inl refl,
    ),
  ),
)

at_fraction : IsLeaf Strict leaf.LocalDateTime (codes "1979-05-27T00:32:00.999999")
at_fraction = (
  codes "1979-05-27",
  codes "T00:32:00.999999",
  refl,
  (1979, 5, 27, omega arith, omega arith, omega arith, omega arith, omega arith, refl),
  (
    codes "T",
    codes "00:32:00.999999",
    refl,
    (0x54, refl, refl),
    (
      codes "00:32:00",
      codes ".999999",
      refl,
      (codes "00:32", codes ":00", refl, (0, 32, omega arith, omega arith, refl), (0, omega arith, refl)),
      inr (codes ".", codes "999999", refl, refl, (omega arith, refl)),
    ),
  ),
)

zulu : IsLeaf Strict leaf.OffsetDateTime (codes "1979-05-27T07:32:00Z")
zulu = (
  codes "1979-05-27T07:32:00",
  codes "Z",
  refl,
  (
    codes "1979-05-27",
    codes "T07:32:00",
    refl,
    (1979, 5, 27, omega arith, omega arith, omega arith, omega arith, omega arith, refl),
    (
      codes "T",
      codes "07:32:00",
      refl,
      (0x54, refl, refl),
      (
        codes "07:32:00",
        [],
        refl,
        (codes "07:32", codes ":00", refl, (7, 32, omega arith, omega arith, refl), (0, omega arith, refl)),
        inl refl,
      ),
    ),
  ),
  inl (0x5A, refl, refl),
)

small_zulu : IsLeaf Strict leaf.OffsetDateTime (codes "1979-05-27t07:32:00z")
small_zulu = (
  codes "1979-05-27t07:32:00",
  codes "z",
  refl,
  (
    codes "1979-05-27",
    codes "t07:32:00",
    refl,
    (1979, 5, 27, omega arith, omega arith, omega arith, omega arith, omega arith, refl),
    (
      codes "t",
      codes "07:32:00",
      refl,
      (0x74, refl, refl),
      (
        codes "07:32:00",
        [],
        refl,
        (codes "07:32", codes ":00", refl, (7, 32, omega arith, omega arith, refl), (0, omega arith, refl)),
        inl refl,
      ),
    ),
  ),
  inl (0x7A, refl, refl),
)

west : IsLeaf Strict leaf.OffsetDateTime (codes "1979-05-27T00:32:00-07:00")
west = (
  codes "1979-05-27T00:32:00",
  codes "-07:00",
  refl,
  (
    codes "1979-05-27",
    codes "T00:32:00",
    refl,
    (1979, 5, 27, omega arith, omega arith, omega arith, omega arith, omega arith, refl),
    (
      codes "T",
      codes "00:32:00",
      refl,
      (0x54, refl, refl),
      (
        codes "00:32:00",
        [],
        refl,
        (codes "00:32", codes ":00", refl, (0, 32, omega arith, omega arith, refl), (0, omega arith, refl)),
        inl refl,
      ),
    ),
  ),
  inr (codes "-", codes "07:00", refl, (0x2D, refl, refl), (7, 0, omega arith, omega arith, refl)),
)

west_fraction : IsLeaf Strict leaf.OffsetDateTime (codes "1979-05-27T00:32:00.999999-07:00")
west_fraction = (
  codes "1979-05-27T00:32:00.999999",
  codes "-07:00",
  refl,
  (
    codes "1979-05-27",
    codes "T00:32:00.999999",
    refl,
    (1979, 5, 27, omega arith, omega arith, omega arith, omega arith, omega arith, refl),
    (
      codes "T",
      codes "00:32:00.999999",
      refl,
      (0x54, refl, refl),
      (
        codes "00:32:00",
        codes ".999999",
        refl,
        (codes "00:32", codes ":00", refl, (0, 32, omega arith, omega arith, refl), (0, omega arith, refl)),
        inr (codes ".", codes "999999", refl, refl, (omega arith, refl)),
      ),
    ),
  ),
  inr (codes "-", codes "07:00", refl, (0x2D, refl, refl), (7, 0, omega arith, omega arith, refl)),
)

east_space : IsLeaf Strict leaf.OffsetDateTime (codes "1979-05-27 07:32:00+23:59")
east_space = (
  codes "1979-05-27 07:32:00",
  codes "+23:59",
  refl,
  (
    codes "1979-05-27",
    codes " 07:32:00",
    refl,
    (1979, 5, 27, omega arith, omega arith, omega arith, omega arith, omega arith, refl),
    (
      codes " ",
      codes "07:32:00",
      refl,
      (0x20, refl, refl),
      (
        codes "07:32:00",
        [],
        refl,
        (codes "07:32", codes ":00", refl, (7, 32, omega arith, omega arith, refl), (0, omega arith, refl)),
        inl refl,
      ),
    ),
  ),
  inr (codes "+", codes "23:59", refl, (0x2B, refl, refl), (23, 59, omega arith, omega arith, refl)),
)

unknown_offset : IsLeaf Strict leaf.OffsetDateTime (codes "1979-05-27T07:32:00-00:00")
unknown_offset = (
  codes "1979-05-27T07:32:00",
  codes "-00:00",
  refl,
  (
    codes "1979-05-27",
    codes "T07:32:00",
    refl,
    (1979, 5, 27, omega arith, omega arith, omega arith, omega arith, omega arith, refl),
    (
      codes "T",
      codes "07:32:00",
      refl,
      (0x54, refl, refl),
      (
        codes "07:32:00",
        [],
        refl,
        (codes "07:32", codes ":00", refl, (7, 32, omega arith, omega arith, refl), (0, omega arith, refl)),
        inl refl,
      ),
    ),
  ),
  inr (codes "-", codes "00:00", refl, (0x2D, refl, refl), (0, 0, omega arith, omega arith, refl)),
)

leap_second_zulu : IsLeaf Strict leaf.OffsetDateTime (codes "1990-12-31T23:59:60Z")
leap_second_zulu = (
  codes "1990-12-31T23:59:60",
  codes "Z",
  refl,
  (
    codes "1990-12-31",
    codes "T23:59:60",
    refl,
    (1990, 12, 31, omega arith, omega arith, omega arith, omega arith, omega arith, refl),
    (
      codes "T",
      codes "23:59:60",
      refl,
      (0x54, refl, refl),
      (
        codes "23:59:60",
        [],
        refl,
        (codes "23:59", codes ":60", refl, (23, 59, omega arith, omega arith, refl), (60, omega arith, refl)),
        inl refl,
      ),
    ),
  ),
  inl (0x5A, refl, refl),
)

short_time : IsLeaf Wide leaf.LocalTime (codes "07:32")
short_time = inr (7, 32, omega arith, omega arith, refl)

short_last : IsLeaf Wide leaf.LocalTime (codes "23:59")
short_last = inr (23, 59, omega arith, omega arith, refl)

short_at_t : IsLeaf Wide leaf.LocalDateTime (codes "1979-05-27T07:32")
short_at_t = (
  codes "1979-05-27",
  codes "T07:32",
  refl,
  (1979, 5, 27, omega arith, omega arith, omega arith, omega arith, omega arith, refl),
  (codes "T", codes "07:32", refl, (0x54, refl, refl), inr (7, 32, omega arith, omega arith, refl)),
)

short_zulu : IsLeaf Wide leaf.OffsetDateTime (codes "1979-05-27 07:32Z")
short_zulu = (
  codes "1979-05-27 07:32",
  codes "Z",
  refl,
  (
    codes "1979-05-27",
    codes " 07:32",
    refl,
    (1979, 5, 27, omega arith, omega arith, omega arith, omega arith, omega arith, refl),
    (codes " ", codes "07:32", refl, (0x20, refl, refl), inr (7, 32, omega arith, omega arith, refl)),
  ),
  inl (0x5A, refl, refl),
)

short_west : IsLeaf Wide leaf.OffsetDateTime (codes "1979-05-27T07:32-07:00")
short_west = (
  codes "1979-05-27T07:32",
  codes "-07:00",
  refl,
  (
    codes "1979-05-27",
    codes "T07:32",
    refl,
    (1979, 5, 27, omega arith, omega arith, omega arith, omega arith, omega arith, refl),
    (codes "T", codes "07:32", refl, (0x54, refl, refl), inr (7, 32, omega arith, omega arith, refl)),
  ),
  inr (codes "-", codes "07:00", refl, (0x2D, refl, refl), (7, 0, omega arith, omega arith, refl)),
)

-- ---- their kinds

kind_day : IsIn leaf.LocalDate (codes "1979-05-27")
unfolding word_leaf
kind_day = (refl, refl)

kind_leap_0000 : IsIn leaf.LocalDate (codes "0000-02-29")
unfolding word_leaf
kind_leap_0000 = (refl, refl)

kind_leap_2000 : IsIn leaf.LocalDate (codes "2000-02-29")
unfolding word_leaf
kind_leap_2000 = (refl, refl)

kind_leap_2024 : IsIn leaf.LocalDate (codes "2024-02-29")
unfolding word_leaf
kind_leap_2024 = (refl, refl)

kind_first_day : IsIn leaf.LocalDate (codes "0000-01-01")
unfolding word_leaf
kind_first_day = (refl, refl)

kind_last_day : IsIn leaf.LocalDate (codes "9999-12-31")
unfolding word_leaf
kind_last_day = (refl, refl)

kind_time : IsIn leaf.LocalTime (codes "07:32:00")
unfolding word_leaf
kind_time = (refl, refl)

kind_midnight : IsIn leaf.LocalTime (codes "00:00:00")
unfolding word_leaf
kind_midnight = (refl, refl)

kind_leap_second : IsIn leaf.LocalTime (codes "00:00:60")
unfolding word_leaf
kind_leap_second = (refl, refl)

kind_fraction_nought : IsIn leaf.LocalTime (codes "23:59:59.0")
unfolding word_leaf
kind_fraction_nought = (refl, refl)

kind_fraction_six : IsIn leaf.LocalTime (codes "00:32:00.999999")
unfolding word_leaf
kind_fraction_six = (refl, refl)

kind_fraction_long : IsIn leaf.LocalTime (codes "00:32:00.123456789012345")
unfolding word_leaf
kind_fraction_long = (refl, refl)

kind_at_t : IsIn leaf.LocalDateTime (codes "1979-05-27T07:32:00")
unfolding word_leaf
kind_at_t = (refl, refl)

kind_at_small_t : IsIn leaf.LocalDateTime (codes "1979-05-27t07:32:00")
unfolding word_leaf
kind_at_small_t = (refl, refl)

kind_at_space : IsIn leaf.LocalDateTime (codes "1979-05-27 07:32:00")
unfolding word_leaf
kind_at_space = (refl, refl)

kind_at_fraction : IsIn leaf.LocalDateTime (codes "1979-05-27T00:32:00.999999")
unfolding word_leaf
kind_at_fraction = (refl, refl)

kind_zulu : IsIn leaf.OffsetDateTime (codes "1979-05-27T07:32:00Z")
unfolding word_leaf
kind_zulu = (refl, refl)

kind_small_zulu : IsIn leaf.OffsetDateTime (codes "1979-05-27t07:32:00z")
unfolding word_leaf
kind_small_zulu = (refl, refl)

kind_west : IsIn leaf.OffsetDateTime (codes "1979-05-27T00:32:00-07:00")
unfolding word_leaf
kind_west = (refl, refl)

kind_west_fraction : IsIn leaf.OffsetDateTime (codes "1979-05-27T00:32:00.999999-07:00")
unfolding word_leaf
kind_west_fraction = (refl, refl)

kind_east_space : IsIn leaf.OffsetDateTime (codes "1979-05-27 07:32:00+23:59")
unfolding word_leaf
kind_east_space = (refl, refl)

kind_unknown_offset : IsIn leaf.OffsetDateTime (codes "1979-05-27T07:32:00-00:00")
unfolding word_leaf
kind_unknown_offset = (refl, refl)

kind_leap_second_zulu : IsIn leaf.OffsetDateTime (codes "1990-12-31T23:59:60Z")
unfolding word_leaf
kind_leap_second_zulu = (refl, refl)

kind_short_time : word_leaf Wide (codes "07:32") ≡ Some leaf.LocalTime
unfolding word_leaf
kind_short_time = refl

kind_short_last : word_leaf Wide (codes "23:59") ≡ Some leaf.LocalTime
unfolding word_leaf
kind_short_last = refl

kind_short_at_t : word_leaf Wide (codes "1979-05-27T07:32") ≡ Some leaf.LocalDateTime
unfolding word_leaf
kind_short_at_t = refl

kind_short_zulu : word_leaf Wide (codes "1979-05-27 07:32Z") ≡ Some leaf.OffsetDateTime
unfolding word_leaf
kind_short_zulu = refl

kind_short_west : word_leaf Wide (codes "1979-05-27T07:32-07:00") ≡ Some leaf.OffsetDateTime
unfolding word_leaf
kind_short_west = refl

-- ---- refused

-- no date, no time and not both
abbrev IsNoDate : Profile → List ℕ → Type 0
IsNoDate profile t =
    (LocalDate t → ⊥) × (LocalTime profile t → ⊥) × (LocalDateTime profile t → ⊥) × (OffsetDateTime profile t → ⊥)

refused : (profile : Profile) (t : List ℕ) → is_date t ≡ false → is_time profile t ≡ false
    → is_date_time profile t ≡ false → is_offset_date_time profile t ≡ false → IsNoDate profile t
refused profile t a b c d = (
  λ h. let k = date_to t h in cc,
  λ h. let k = time_to profile t h in cc,
  λ h. let k = date_time_to profile t h in cc,
  λ h. let k = offset_date_time_to profile t h in cc,
)

-- no date, and no other word
abbrev IsRefused : Profile → List ℕ → Type 0
IsRefused profile t = IsNoDate profile t × (word_leaf profile t ≡ None)

no_month_13 : IsRefused Strict (codes "1979-13-01")
unfolding word_leaf
no_month_13 = (refused Strict (codes "1979-13-01") refl refl refl refl, refl)

no_month_13_wide : IsRefused Wide (codes "1979-13-01")
unfolding word_leaf
no_month_13_wide = (refused Wide (codes "1979-13-01") refl refl refl refl, refl)

no_month_0 : IsRefused Strict (codes "1979-00-01")
unfolding word_leaf
no_month_0 = (refused Strict (codes "1979-00-01") refl refl refl refl, refl)

no_month_0_wide : IsRefused Wide (codes "1979-00-01")
unfolding word_leaf
no_month_0_wide = (refused Wide (codes "1979-00-01") refl refl refl refl, refl)

no_day_0 : IsRefused Strict (codes "1979-05-00")
unfolding word_leaf
no_day_0 = (refused Strict (codes "1979-05-00") refl refl refl refl, refl)

no_day_0_wide : IsRefused Wide (codes "1979-05-00")
unfolding word_leaf
no_day_0_wide = (refused Wide (codes "1979-05-00") refl refl refl refl, refl)

no_day_32 : IsRefused Strict (codes "1979-05-32")
unfolding word_leaf
no_day_32 = (refused Strict (codes "1979-05-32") refl refl refl refl, refl)

no_day_32_wide : IsRefused Wide (codes "1979-05-32")
unfolding word_leaf
no_day_32_wide = (refused Wide (codes "1979-05-32") refl refl refl refl, refl)

no_april_31 : IsRefused Strict (codes "1979-04-31")
unfolding word_leaf
no_april_31 = (refused Strict (codes "1979-04-31") refl refl refl refl, refl)

no_april_31_wide : IsRefused Wide (codes "1979-04-31")
unfolding word_leaf
no_april_31_wide = (refused Wide (codes "1979-04-31") refl refl refl refl, refl)

no_leap_1979 : IsRefused Strict (codes "1979-02-29")
unfolding word_leaf
no_leap_1979 = (refused Strict (codes "1979-02-29") refl refl refl refl, refl)

no_leap_1979_wide : IsRefused Wide (codes "1979-02-29")
unfolding word_leaf
no_leap_1979_wide = (refused Wide (codes "1979-02-29") refl refl refl refl, refl)

no_leap_1900 : IsRefused Strict (codes "1900-02-29")
unfolding word_leaf
no_leap_1900 = (refused Strict (codes "1900-02-29") refl refl refl refl, refl)

no_leap_1900_wide : IsRefused Wide (codes "1900-02-29")
unfolding word_leaf
no_leap_1900_wide = (refused Wide (codes "1900-02-29") refl refl refl refl, refl)

no_leap_2100 : IsRefused Strict (codes "2100-02-29")
unfolding word_leaf
no_leap_2100 = (refused Strict (codes "2100-02-29") refl refl refl refl, refl)

no_leap_2100_wide : IsRefused Wide (codes "2100-02-29")
unfolding word_leaf
no_leap_2100_wide = (refused Wide (codes "2100-02-29") refl refl refl refl, refl)

no_february_30 : IsRefused Strict (codes "2000-02-30")
unfolding word_leaf
no_february_30 = (refused Strict (codes "2000-02-30") refl refl refl refl, refl)

no_february_30_wide : IsRefused Wide (codes "2000-02-30")
unfolding word_leaf
no_february_30_wide = (refused Wide (codes "2000-02-30") refl refl refl refl, refl)

no_short_month : IsRefused Strict (codes "1979-5-27")
unfolding word_leaf
no_short_month = (refused Strict (codes "1979-5-27") refl refl refl refl, refl)

no_short_month_wide : IsRefused Wide (codes "1979-5-27")
unfolding word_leaf
no_short_month_wide = (refused Wide (codes "1979-5-27") refl refl refl refl, refl)

no_short_year : IsRefused Strict (codes "979-05-27")
unfolding word_leaf
no_short_year = (refused Strict (codes "979-05-27") refl refl refl refl, refl)

no_short_year_wide : IsRefused Wide (codes "979-05-27")
unfolding word_leaf
no_short_year_wide = (refused Wide (codes "979-05-27") refl refl refl refl, refl)

no_year_5 : IsRefused Strict (codes "11979-05-27")
unfolding word_leaf
no_year_5 = (refused Strict (codes "11979-05-27") refl refl refl refl, refl)

no_year_5_wide : IsRefused Wide (codes "11979-05-27")
unfolding word_leaf
no_year_5_wide = (refused Wide (codes "11979-05-27") refl refl refl refl, refl)

no_hour_24 : IsRefused Strict (codes "24:00:00")
unfolding word_leaf
no_hour_24 = (refused Strict (codes "24:00:00") refl refl refl refl, refl)

no_hour_24_wide : IsRefused Wide (codes "24:00:00")
unfolding word_leaf
no_hour_24_wide = (refused Wide (codes "24:00:00") refl refl refl refl, refl)

no_minute_60 : IsRefused Strict (codes "07:60:00")
unfolding word_leaf
no_minute_60 = (refused Strict (codes "07:60:00") refl refl refl refl, refl)

no_minute_60_wide : IsRefused Wide (codes "07:60:00")
unfolding word_leaf
no_minute_60_wide = (refused Wide (codes "07:60:00") refl refl refl refl, refl)

no_second_61 : IsRefused Strict (codes "07:32:61")
unfolding word_leaf
no_second_61 = (refused Strict (codes "07:32:61") refl refl refl refl, refl)

no_second_61_wide : IsRefused Wide (codes "07:32:61")
unfolding word_leaf
no_second_61_wide = (refused Wide (codes "07:32:61") refl refl refl refl, refl)

no_point_alone : IsRefused Strict (codes "07:32:00.")
unfolding word_leaf
no_point_alone = (refused Strict (codes "07:32:00.") refl refl refl refl, refl)

no_point_alone_wide : IsRefused Wide (codes "07:32:00.")
unfolding word_leaf
no_point_alone_wide = (refused Wide (codes "07:32:00.") refl refl refl refl, refl)

no_short_hour : IsRefused Strict (codes "7:32:00")
unfolding word_leaf
no_short_hour = (refused Strict (codes "7:32:00") refl refl refl refl, refl)

no_short_hour_wide : IsRefused Wide (codes "7:32:00")
unfolding word_leaf
no_short_hour_wide = (refused Wide (codes "7:32:00") refl refl refl refl, refl)

no_short_second : IsRefused Strict (codes "07:32:0")
unfolding word_leaf
no_short_second = (refused Strict (codes "07:32:0") refl refl refl refl, refl)

no_short_second_wide : IsRefused Wide (codes "07:32:0")
unfolding word_leaf
no_short_second_wide = (refused Wide (codes "07:32:0") refl refl refl refl, refl)

no_fraction_letter : IsRefused Strict (codes "07:32:00.a")
unfolding word_leaf
no_fraction_letter = (refused Strict (codes "07:32:00.a") refl refl refl refl, refl)

no_fraction_letter_wide : IsRefused Wide (codes "07:32:00.a")
unfolding word_leaf
no_fraction_letter_wide = (refused Wide (codes "07:32:00.a") refl refl refl refl, refl)

no_fraction_underscore : IsRefused Strict (codes "07:32:00.1_0")
unfolding word_leaf
no_fraction_underscore = (refused Strict (codes "07:32:00.1_0") refl refl refl refl, refl)

no_fraction_underscore_wide : IsRefused Wide (codes "07:32:00.1_0")
unfolding word_leaf
no_fraction_underscore_wide = (refused Wide (codes "07:32:00.1_0") refl refl refl refl, refl)

no_time_zulu : IsRefused Strict (codes "07:32:00Z")
unfolding word_leaf
no_time_zulu = (refused Strict (codes "07:32:00Z") refl refl refl refl, refl)

no_time_zulu_wide : IsRefused Wide (codes "07:32:00Z")
unfolding word_leaf
no_time_zulu_wide = (refused Wide (codes "07:32:00Z") refl refl refl refl, refl)

no_date_t : IsRefused Strict (codes "1979-05-27T")
unfolding word_leaf
no_date_t = (refused Strict (codes "1979-05-27T") refl refl refl refl, refl)

no_date_t_wide : IsRefused Wide (codes "1979-05-27T")
unfolding word_leaf
no_date_t_wide = (refused Wide (codes "1979-05-27T") refl refl refl refl, refl)

no_date_space_digit : IsRefused Strict (codes "1979-05-27 0")
unfolding word_leaf
no_date_space_digit = (refused Strict (codes "1979-05-27 0") refl refl refl refl, refl)

no_date_space_digit_wide : IsRefused Wide (codes "1979-05-27 0")
unfolding word_leaf
no_date_space_digit_wide = (refused Wide (codes "1979-05-27 0") refl refl refl refl, refl)

no_two_spaces : IsRefused Strict (codes "1979-05-27  07:32:00")
unfolding word_leaf
no_two_spaces = (refused Strict (codes "1979-05-27  07:32:00") refl refl refl refl, refl)

no_two_spaces_wide : IsRefused Wide (codes "1979-05-27  07:32:00")
unfolding word_leaf
no_two_spaces_wide = (refused Wide (codes "1979-05-27  07:32:00") refl refl refl refl, refl)

no_underscore_between : IsRefused Strict (codes "1979-05-27_07:32:00")
unfolding word_leaf
no_underscore_between = (refused Strict (codes "1979-05-27_07:32:00") refl refl refl refl, refl)

no_underscore_between_wide : IsRefused Wide (codes "1979-05-27_07:32:00")
unfolding word_leaf
no_underscore_between_wide = (refused Wide (codes "1979-05-27_07:32:00") refl refl refl refl, refl)

no_date_time_hour_24 : IsRefused Strict (codes "1979-05-27T24:00:00Z")
unfolding word_leaf
no_date_time_hour_24 = (refused Strict (codes "1979-05-27T24:00:00Z") refl refl refl refl, refl)

no_date_time_hour_24_wide : IsRefused Wide (codes "1979-05-27T24:00:00Z")
unfolding word_leaf
no_date_time_hour_24_wide = (refused Wide (codes "1979-05-27T24:00:00Z") refl refl refl refl, refl)

no_date_time_month_13 : IsRefused Strict (codes "1979-13-27T07:32:00")
unfolding word_leaf
no_date_time_month_13 = (refused Strict (codes "1979-13-27T07:32:00") refl refl refl refl, refl)

no_date_time_month_13_wide : IsRefused Wide (codes "1979-13-27T07:32:00")
unfolding word_leaf
no_date_time_month_13_wide = (refused Wide (codes "1979-13-27T07:32:00") refl refl refl refl, refl)

no_date_zulu : IsRefused Strict (codes "1979-05-27Z")
unfolding word_leaf
no_date_zulu = (refused Strict (codes "1979-05-27Z") refl refl refl refl, refl)

no_date_zulu_wide : IsRefused Wide (codes "1979-05-27Z")
unfolding word_leaf
no_date_zulu_wide = (refused Wide (codes "1979-05-27Z") refl refl refl refl, refl)

no_offset_hour_24 : IsRefused Strict (codes "1979-05-27T07:32:00+24:00")
unfolding word_leaf
no_offset_hour_24 = (refused Strict (codes "1979-05-27T07:32:00+24:00") refl refl refl refl, refl)

no_offset_hour_24_wide : IsRefused Wide (codes "1979-05-27T07:32:00+24:00")
unfolding word_leaf
no_offset_hour_24_wide = (refused Wide (codes "1979-05-27T07:32:00+24:00") refl refl refl refl, refl)

no_offset_minute_60 : IsRefused Strict (codes "1979-05-27T07:32:00+07:60")
unfolding word_leaf
no_offset_minute_60 = (refused Strict (codes "1979-05-27T07:32:00+07:60") refl refl refl refl, refl)

no_offset_minute_60_wide : IsRefused Wide (codes "1979-05-27T07:32:00+07:60")
unfolding word_leaf
no_offset_minute_60_wide = (refused Wide (codes "1979-05-27T07:32:00+07:60") refl refl refl refl, refl)

no_offset_short : IsRefused Strict (codes "1979-05-27T07:32:00+7:00")
unfolding word_leaf
no_offset_short = (refused Strict (codes "1979-05-27T07:32:00+7:00") refl refl refl refl, refl)

no_offset_short_wide : IsRefused Wide (codes "1979-05-27T07:32:00+7:00")
unfolding word_leaf
no_offset_short_wide = (refused Wide (codes "1979-05-27T07:32:00+7:00") refl refl refl refl, refl)

no_offset_no_colon : IsRefused Strict (codes "1979-05-27T07:32:00+0700")
unfolding word_leaf
no_offset_no_colon = (refused Strict (codes "1979-05-27T07:32:00+0700") refl refl refl refl, refl)

no_offset_no_colon_wide : IsRefused Wide (codes "1979-05-27T07:32:00+0700")
unfolding word_leaf
no_offset_no_colon_wide = (refused Wide (codes "1979-05-27T07:32:00+0700") refl refl refl refl, refl)

no_offset_hours : IsRefused Strict (codes "1979-05-27T07:32:00+07")
unfolding word_leaf
no_offset_hours = (refused Strict (codes "1979-05-27T07:32:00+07") refl refl refl refl, refl)

no_offset_hours_wide : IsRefused Wide (codes "1979-05-27T07:32:00+07")
unfolding word_leaf
no_offset_hours_wide = (refused Wide (codes "1979-05-27T07:32:00+07") refl refl refl refl, refl)

no_two_zulus : IsRefused Strict (codes "1979-05-27T07:32:00ZZ")
unfolding word_leaf
no_two_zulus = (refused Strict (codes "1979-05-27T07:32:00ZZ") refl refl refl refl, refl)

no_two_zulus_wide : IsRefused Wide (codes "1979-05-27T07:32:00ZZ")
unfolding word_leaf
no_two_zulus_wide = (refused Wide (codes "1979-05-27T07:32:00ZZ") refl refl refl refl, refl)

no_space_zulu : IsRefused Strict (codes "1979-05-27T07:32:00 Z")
unfolding word_leaf
no_space_zulu = (refused Strict (codes "1979-05-27T07:32:00 Z") refl refl refl refl, refl)

no_space_zulu_wide : IsRefused Wide (codes "1979-05-27T07:32:00 Z")
unfolding word_leaf
no_space_zulu_wide = (refused Wide (codes "1979-05-27T07:32:00 Z") refl refl refl refl, refl)

no_date_offset : IsRefused Strict (codes "1979-05-27+07:00")
unfolding word_leaf
no_date_offset = (refused Strict (codes "1979-05-27+07:00") refl refl refl refl, refl)

no_date_offset_wide : IsRefused Wide (codes "1979-05-27+07:00")
unfolding word_leaf
no_date_offset_wide = (refused Wide (codes "1979-05-27+07:00") refl refl refl refl, refl)

no_nothing : IsRefused Strict (codes "")
unfolding word_leaf
no_nothing = (refused Strict (codes "") refl refl refl refl, refl)

no_nothing_wide : IsRefused Wide (codes "")
unfolding word_leaf
no_nothing_wide = (refused Wide (codes "") refl refl refl refl, refl)

no_strict_short_time : IsRefused Strict (codes "07:32")
unfolding word_leaf
no_strict_short_time = (refused Strict (codes "07:32") refl refl refl refl, refl)

no_strict_short_at_t : IsRefused Strict (codes "1979-05-27T07:32")
unfolding word_leaf
no_strict_short_at_t = (refused Strict (codes "1979-05-27T07:32") refl refl refl refl, refl)

no_strict_short_zulu : IsRefused Strict (codes "1979-05-27 07:32Z")
unfolding word_leaf
no_strict_short_zulu = (refused Strict (codes "1979-05-27 07:32Z") refl refl refl refl, refl)

no_wide_short_fraction : IsRefused Wide (codes "07:32.5")
unfolding word_leaf
no_wide_short_fraction = (refused Wide (codes "07:32.5") refl refl refl refl, refl)

no_wide_short_point : IsRefused Wide (codes "07:32.")
unfolding word_leaf
no_wide_short_point = (refused Wide (codes "07:32.") refl refl refl refl, refl)

no_wide_hour_24 : IsRefused Wide (codes "24:00")
unfolding word_leaf
no_wide_hour_24 = (refused Wide (codes "24:00") refl refl refl refl, refl)

no_wide_minute_60 : IsRefused Wide (codes "07:60")
unfolding word_leaf
no_wide_minute_60 = (refused Wide (codes "07:60") refl refl refl refl, refl)

no_wide_short_at_fraction : IsRefused Wide (codes "1979-05-27T07:32.5")
unfolding word_leaf
no_wide_short_at_fraction = (refused Wide (codes "1979-05-27T07:32.5") refl refl refl refl, refl)

no_wide_hour_alone : IsRefused Wide (codes "07")
unfolding word_leaf
no_wide_hour_alone = (refused Wide (codes "07") refl refl refl refl, refl)

no_wide_colon_last : IsRefused Wide (codes "07:32:")
unfolding word_leaf
no_wide_colon_last = (refused Wide (codes "07:32:") refl refl refl refl, refl)

-- ---- words in a text

before_comment : word_len (codes "1979-05-27 # c") ≡ 10
before_comment = refl

before_two_spaces : word_len (codes "1979-05-27  07:32:00") ≡ 10
before_two_spaces = refl

with_space : word_len (codes "1979-05-27 07:32:00-07:00 08") ≡ 25
with_space = refl

with_t : word_len (codes "1979-05-27T07:32:00 08") ≡ 19
with_t = refl

before_space : word_len (codes "1979-05-27 ") ≡ 10
before_space = refl

-- a date before a comment is the leaf there
leaf_before_comment : ScalarLeaf Strict (codes "1979-05-27 # c") leaf.LocalDate 10
leaf_before_comment = record {
  kind = refl;
  within = omega arith;
  belongs = (1979, 5, 27, omega arith, omega arith, omega arith, omega arith, omega arith, refl);
  word = λ h. refl;
  one_line = λ h. absurd cc;
  longest = λ h. absurd cc;
}
