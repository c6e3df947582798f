-- No date and no time is an integer, a float or a truth value, so that a word of one of these kinds is found as it.
--
-- Each date and time begins with two or more digits and then a dash or a colon (`BeginsAsDate`). Digits of a number end
-- there, and no number goes on with such a byte: so the test of integers and that of floats fail (`no_integer`,
-- `no_float`), and a truth value begins with a letter (`no_boolean`). Then of the tests that `word_leaf` makes in turn
-- the first that passes is that of the date or the time itself.
--
-- Theorems: `word_leaf_date`, `word_leaf_time`, `word_leaf_date_time` and `word_leaf_offset_date_time`.
use Rattle.std.proofs.Common.{◌≡◌, ℕ, suc, ◌+◌, ◌<◌, Bool, true, false, ◌&&◌, ◌||◌, ◌==◌, List, [], ◌∷◌, ◌++◌, length}
use Rattle.std.proofs.Common.{take, drop, refl, ap, ◌∙◌, arith, Some}
use Rattle.std.specs.Prelude.{slice_index}
use Rattle.std.proofs.lemmas.Bool.{and_parts}
use Rattle.std.proofs.lemmas.Bool.Decides.{nat_tests}
use Rattle.std.proofs.lemmas.List.{length-take-le}
use Rattle.std.specs.List.{list_all, prefix_len}
use Rattle.std.specs.Char.{is_ascii_digit}
use Rattle.keep_types.specs.declared.leaf.Profile.{Profile}
use Rattle.keep_types.specs.declared.leaf.Leaf.TheVariants as leaf
use Rattle.keep_token.specs.Dates.{LocalDate, LocalTime, LocalDateTime, OffsetDateTime}
use Rattle.keep_token.specs.Numbers.{is_digits, is_underscore, is_decimal, is_sign}
use Rattle.keep_token.specs.Words.{is_integer, is_integer_text, is_prefixed, is_float, is_number, is_special, is_three}
use Rattle.keep_token.specs.Words.{is_whole, is_boolean, is_date, is_time, is_date_time, is_offset_date_time, word_leaf}
use Rattle.keep_token.proofs.DateLaws.{date_to, time_to, date_time_to, offset_date_time_to, parted}
use Rattle.keep_token.proofs.DateShapes.{ShowsDateTime, date_shows, time_shows, date_time_shows, offset_date_time_shows}
use Rattle.keep_token.proofs.DateShapes.{time_not_date, date_time_not_date, date_time_not_time}
use Rattle.keep_token.proofs.DateShapes.{offset_date_time_not_date, offset_date_time_not_time}
use Rattle.keep_token.proofs.DateShapes.{offset_date_time_not_date_time}

-- a dash or a colon
abbrev pub is_stop : ℕ → Bool
is_stop c = c == 0x2D || c == 0x3A

-- two or more digits, then a dash or a colon
pub record BeginsAsDate (t : List ℕ) : Type 0 where
  pub digits : List ℕ
  pub stop : ℕ
  pub more : List ℕ
  pub spelled : t ≡ digits ++ (stop ∷ more)
  pub two : 1 < length digits
  pub all : list_all is_ascii_digit digits ≡ true
  pub stops : is_stop stop ≡ true

begins_at : (t : List ℕ) (n : ℕ) → 1 < n → n < length t → list_all is_ascii_digit (take n t) ≡ true
    → is_stop (slice_index t n) ≡ true → BeginsAsDate t
begins_at t n two lt all stops =
    let len : length (take n t) ≡ n = length-take-le n t (omega arith) in
    record {
      digits = take n t;
      stop = slice_index t n;
      more = drop (suc n) t;
      spelled = parted t n lt;
      two = omega arith;
      all = all;
      stops = stops;
    }

dash_stops : (c : ℕ) → c ≡ 0x2D → is_stop c ≡ true
dash_stops c e = rw e refl

colon_stops : (c : ℕ) → c ≡ 0x3A → is_stop c ≡ true
colon_stops c e = rw e refl

pub date_begins : (t : List ℕ) → is_date t ≡ true → BeginsAsDate t
date_begins t k =
    let s = date_shows t k in
    begins_at t 4 (omega arith) (omega (arith, s.ten)) s.prefix (dash_stops (slice_index t 4) s.dash)

pub time_begins : (profile : Profile) (t : List ℕ) → is_time profile t ≡ true → BeginsAsDate t
time_begins profile t k =
    let s = time_shows profile t k in
    begins_at t 2 (omega arith) (omega (arith, s.long)) s.prefix (colon_stops (slice_index t 2) s.colon)

seen_begins : (t : List ℕ) → ShowsDateTime t → BeginsAsDate t
seen_begins t s = begins_at t 4 (omega arith) (omega (arith, s.long)) s.prefix (dash_stops (slice_index t 4) s.dash)

pub date_time_begins : (profile : Profile) (t : List ℕ) → is_date_time profile t ≡ true → BeginsAsDate t
date_time_begins profile t k = seen_begins t (date_time_shows profile t k)

pub offset_date_time_begins : (profile : Profile) (t : List ℕ) → is_offset_date_time profile t ≡ true → BeginsAsDate t
offset_date_time_begins profile t k = seen_begins t (offset_date_time_shows profile t k)

-- ---- no digits continue past a dash or a colon

stop_is : (c : ℕ) → is_stop c ≡ true → (is_ascii_digit c ≡ false) × (is_underscore c ≡ false) × (is_whole c ≡ true)
stop_is c h = (grind (arith, nat_tests), grind (arith, nat_tests), grind (arith, nat_tests))

digit_is_no : (c : ℕ) → is_ascii_digit c ≡ true → (is_underscore c ≡ false) × (is_sign c ≡ false) × (is_whole c ≡ true)
digit_is_no c h = (grind (arith, nat_tests), grind (arith, nat_tests), grind (arith, nat_tests))

stop_digits : (s : ℕ) (more : List ℕ) → is_stop s ≡ true → is_digits is_ascii_digit (s ∷ more) ≡ false
stop_digits s [] h = (stop_is s h).0
stop_digits s (c ∷ cs) h = rw (stop_is s h).0 refl

no_digits : (f : List ℕ) (s : ℕ) (more : List ℕ) → list_all is_ascii_digit f ≡ true → is_stop s ≡ true
    → is_digits is_ascii_digit (f ++ (s ∷ more)) ≡ false
no_digits [] s more all h = stop_digits s more h
no_digits (d ∷ []) s more all h =
    let (here, rest) = and_parts (is_ascii_digit d) true all in
    rw (here, (stop_is s h).1) (stop_digits s more h)
no_digits (d ∷ e ∷ f) s more all h =
    let (here, rest) = and_parts (is_ascii_digit d) (list_all is_ascii_digit (e ∷ f)) all in
    let next = (and_parts (is_ascii_digit e) (list_all is_ascii_digit f) rest).0 in
    rw (here, (digit_is_no e next).0) (no_digits (e ∷ f) s more rest h)

no_decimal : (f : List ℕ) (s : ℕ) (more : List ℕ) → 1 < length f → list_all is_ascii_digit f ≡ true → is_stop s ≡ true
    → is_decimal (f ++ (s ∷ more)) ≡ false
no_decimal [] s more two all h = absurd (omega arith)
no_decimal (d ∷ f) s more two all h =
    let (here, rest) = and_parts (is_ascii_digit d) (list_all is_ascii_digit f) all in
    rw ((digit_is_no d here).1, no_digits (d ∷ f) s more all h) refl

-- ---- integers

digit_no_letter : (c letter : ℕ) → is_ascii_digit c ≡ true → 57 < letter → (c == letter) ≡ false
digit_no_letter c letter h k = grind (arith, nat_tests)

and_never : (x y z : Bool) → y ≡ false → ((x && y) && z) ≡ false
and_never true y z h = rw h refl
and_never false y z h = refl

no_prefixed : (base letter : ℕ) (f : List ℕ) (s : ℕ) (more : List ℕ) → 57 < letter → 1 < length f
    → list_all is_ascii_digit f ≡ true → is_prefixed base letter (f ++ (s ∷ more)) ≡ false
no_prefixed base letter [] s more k two all = absurd (omega arith)
no_prefixed base letter (z ∷ []) s more k two all = absurd (omega arith)
no_prefixed base letter (z ∷ x ∷ f) s more k two all =
    let (here, rest) = and_parts (is_ascii_digit z) (list_all is_ascii_digit (x ∷ f)) all in
    let next = (and_parts (is_ascii_digit x) (list_all is_ascii_digit f) rest).0 in
    and_never (z == 0x30) (x == letter) _ (digit_no_letter x letter next k)

pub no_integer : (t : List ℕ) → BeginsAsDate t → is_integer t ≡ false
no_integer t b =
    let none : is_integer_text t ≡ false = rw (
      b.spelled,
      no_decimal b.digits b.stop b.more b.two b.all b.stops,
      no_prefixed 16 0x78 b.digits b.stop b.more (omega arith) b.two b.all,
      no_prefixed 8 0x6F b.digits b.stop b.more (omega arith) b.two b.all,
      no_prefixed 2 0x62 b.digits b.stop b.more (omega arith) b.two b.all,
    ) refl in
    rw none refl

-- ---- floats

take_one : (n c : ℕ) (cs : List ℕ) → take (1 + n) (c ∷ cs) ≡ c ∷ take n cs
take_one n c cs = let one : 1 + n ≡ suc n = omega arith in rw one refl

whole_run : (f : List ℕ) (s : ℕ) (more : List ℕ) → list_all is_ascii_digit f ≡ true → is_stop s ≡ true
    → take (prefix_len is_whole (f ++ (s ∷ more))) (f ++ (s ∷ more)) ≡ f ++ (s ∷ take (prefix_len is_whole more) more)
whole_run [] s more all h = rw (stop_is s h).2 (take_one (prefix_len is_whole more) s more)
whole_run (d ∷ f) s more all h =
    let (here, rest) = and_parts (is_ascii_digit d) (list_all is_ascii_digit f) all in
    rw (digit_is_no d here).2 (take_one (prefix_len is_whole (f ++ (s ∷ more))) d (f ++ (s ∷ more))
    ∙ ap (λ (u : List ℕ). d ∷ u) (whole_run f s more rest h))

three_no : (c : ℕ) (cs : List ℕ) → (c == 0x69) ≡ false → (c == 0x6E) ≡ false → is_three (c ∷ cs) ≡ false
three_no c (a ∷ b ∷ []) h k = rw (h, k) refl
three_no c _ h k = refl

special_no : (t : List ℕ) → is_ascii_digit (slice_index t 0) ≡ true → is_special t ≡ false
special_no [] h = refl
special_no (c ∷ cs) h =
    rw (digit_is_no c h).1 (three_no c cs (digit_no_letter c 0x69 h (omega arith))
    (digit_no_letter c 0x6E h (omega arith)))

-- the first byte is a digit
first_digit : (f : List ℕ) (s : ℕ) (more : List ℕ) → 1 < length f → list_all is_ascii_digit f ≡ true
    → is_ascii_digit (slice_index (f ++ (s ∷ more)) 0) ≡ true
first_digit [] s more two all = absurd (omega arith)
first_digit (d ∷ f) s more two all = (and_parts (is_ascii_digit d) (list_all is_ascii_digit f) all).0

pub begins_with_digit : (t : List ℕ) → BeginsAsDate t → is_ascii_digit (slice_index t 0) ≡ true
begins_with_digit t b = rw b.spelled (first_digit b.digits b.stop b.more b.two b.all)

pub no_float : (t : List ℕ) → BeginsAsDate t → is_float t ≡ false
no_float t b =
    let none : is_number t ≡ false =
    rw (
      b.spelled,
      whole_run b.digits b.stop b.more b.all b.stops,
      no_decimal b.digits b.stop (take (prefix_len is_whole b.more) b.more) b.two b.all b.stops,
    ) refl in
    rw (none, special_no t (begins_with_digit t b)) refl

-- ---- truth values

boolean_no : (t : List ℕ) → is_ascii_digit (slice_index t 0) ≡ true → is_boolean t ≡ false
boolean_no (a ∷ b ∷ c ∷ d ∷ []) h = rw (digit_no_letter a 0x74 h (omega arith)) refl
boolean_no (a ∷ b ∷ c ∷ d ∷ e ∷ []) h = rw (digit_no_letter a 0x66 h (omega arith)) refl
boolean_no _ h = refl

pub no_boolean : (t : List ℕ) → BeginsAsDate t → is_boolean t ≡ false
no_boolean t b = boolean_no t (begins_with_digit t b)

-- ---- the kinds of words

pub word_leaf_date : (profile : Profile) (t : List ℕ) → LocalDate t → word_leaf profile t ≡ Some leaf.LocalDate
unfolding word_leaf
word_leaf_date profile t h =
    let k = date_to t h in
    let b = date_begins t k in
    rw (no_integer t b, no_float t b, no_boolean t b, k) refl

pub word_leaf_time : (profile : Profile) (t : List ℕ) → LocalTime profile t → word_leaf profile t ≡ Some leaf.LocalTime
unfolding word_leaf
word_leaf_time profile t h =
    let k = time_to profile t h in
    let b = time_begins profile t k in
    rw (no_integer t b, no_float t b, no_boolean t b, time_not_date profile t k, k) refl

pub word_leaf_date_time : (profile : Profile) (t : List ℕ) → LocalDateTime profile t
    → word_leaf profile t ≡ Some leaf.LocalDateTime
unfolding word_leaf
word_leaf_date_time profile t h =
    let k = date_time_to profile t h in
    let b = date_time_begins profile t k in
    rw (no_integer t b, no_float t b, no_boolean t b, date_time_not_date profile t k, date_time_not_time profile t k, k)
    refl

pub word_leaf_offset_date_time : (profile : Profile) (t : List ℕ) → OffsetDateTime profile t
    → word_leaf profile t ≡ Some leaf.OffsetDateTime
unfolding word_leaf
word_leaf_offset_date_time profile t h =
    let k = offset_date_time_to profile t h in
    let b = offset_date_time_begins profile t k in
    rw (
      no_integer t b,
      no_float t b,
      no_boolean t b,
      offset_date_time_not_date profile t k,
      offset_date_time_not_time profile t k,
      offset_date_time_not_date_time profile t k,
      k,
    ) refl
