-- The tests of dates and times decide their languages, both ways.
--
-- There is a pair of lemmas for each part of a text: from the language to the test (`.._to`) and back (`.._from`). The
-- parts are two digits and their number (`pair_two`, `two_pair`), a date, hours and minutes, a time, a date with a
-- time, and that with an offset. A test is a conjunction over the bytes at fixed places; `date_tests`, `minutes_tests`
-- and `seconds_tests` take it apart. The parts of a longer text are found by their lengths, since a date has ten bytes
-- (`date_ten`) and an offset is one byte or six (`zulu_from`, `minutes_offset_from`).
--
-- Theorems: `date_to` and `date_from`, `time_to` and `time_from`, `date_time_to` and `date_time_from`,
-- `offset_date_time_to` and `offset_date_time_from`.
use Rattle.std.proofs.Common.{◌≡◌, ℕ, suc, ◌+◌, ◌-◌, ◌*◌, ◌/◌, ◌%◌, ◌<◌, ◌≤◌, Bool, true, false, ◌&&◌, ◌||◌, ◌==◌, List}
use Rattle.std.proofs.Common.{[], ◌∷◌, ◌++◌, length, take, drop, refl, sym, subst, ap, ◌∙◌, inl, inr, arith, eqb-true}
use Rattle.std.proofs.Common.{take_at, drop_at, length-append, append_assoc, drop-cons}
use Rattle.std.proofs.Math.ListN.{drop_of_length-le}
use Rattle.std.specs.Prelude.{nat_lt, nat_le, slice_index}
use Rattle.std.proofs.lemmas.List.{append-nil, take-append-drop, get_or_at, get_or_past, length-take}
use Rattle.std.proofs.lemmas.Bool.{cases_lt, and_parts, and_from, or_left, or_right, or_cases, lt-ltb, le-leb, ltb-true}
use Rattle.std.proofs.lemmas.Bool.{leb-true}
use Rattle.std.proofs.lemmas.Bool.Decides.{nat_tests}
use Rattle.std.specs.List.{list_all}
use Rattle.std.specs.Char.{is_ascii_digit}
use Rattle.keep_types.specs.declared.leaf.Profile.{Profile}
use Rattle.keep_types.specs.declared.leaf.Profile.TheVariants.{Strict, Wide}
use Rattle.keep_token.specs.Abnf.{Maybe, ◌⨾◌}
use Rattle.keep_token.specs.Numbers.{is_sign}
use Rattle.keep_token.specs.Dates.{two, four, month_length, LocalDate, Minutes, Seconds, SecondFraction, LocalTime}
use Rattle.keep_token.specs.Dates.{LocalDateTime, OffsetDateTime}
use Rattle.keep_token.specs.Words.{pair, is_date, is_minutes, is_seconds, is_second_fraction, is_time_end, is_short}
use Rattle.keep_token.specs.Words.{is_time, is_between_date_and_time, is_date_time, is_zulu, is_offset_date_time}

-- ---- two digits

pair_two : (n : ℕ) → n < 100 → pair (48 + n / 10) (48 + n % 10) ≡ n
pair_two n h = omega arith

tens : (n : ℕ) → n < 100 → is_ascii_digit (48 + n / 10) ≡ true
tens n h = let k : n / 10 < 10 = omega arith in grind (arith, nat_tests)

ones : (n : ℕ) → is_ascii_digit (48 + n % 10) ≡ true
ones n = let k : n % 10 < 10 = omega arith in grind (arith, nat_tests)

digit_is : (c : ℕ) → is_ascii_digit c ≡ true → (48 ≤ c) × (c ≤ 57)
digit_is c h = grind (arith, nat_tests)

two_pair : (a b : ℕ) → is_ascii_digit a ≡ true → is_ascii_digit b ≡ true
    → (two (pair a b) ≡ a ∷ b ∷ []) × (pair a b < 100)
two_pair a b h k =
    let (a_from, a_to) = digit_is a h in
    let (b_from, b_to) = digit_is b k in
    let high : 48 + pair a b / 10 ≡ a = omega arith in
    let low : 48 + pair a b % 10 ≡ b = omega arith in
    (rw (high, low) refl, omega arith)

-- ---- dates

month_short : (y m : ℕ) → month_length y m ≤ 31
month_short y m = grind arith

pub date_to : (t : List ℕ) → LocalDate t → is_date t ≡ true
date_to t (y, m, d, y_below, m_from, m_to, d_from, d_to, e) =
    let short = month_short y m in
    let high : y / 100 < 100 = omega arith in
    let low : y % 100 < 100 = omega arith in
    let month : m < 100 = omega arith in
    let day : d < 100 = omega arith in
    let year : y / 100 * 100 + y % 100 ≡ y = omega arith in
    rw e (rw (
      pair_two (y / 100) high,
      pair_two (y % 100) low,
      pair_two m month,
      pair_two d day,
      tens (y / 100) high,
      ones (y / 100),
      tens (y % 100) low,
      ones (y % 100),
      tens m month,
      ones m,
      tens d day,
      ones d,
      year,
    )
    (and_from (nat_le 1 m && nat_le m 12) (nat_le 1 d && nat_le d (month_length y m))
    (and_from (nat_le 1 m) (nat_le m 12) (le-leb _ _ m_from) (le-leb _ _ m_to))
    (and_from (nat_le 1 d) (nat_le d (month_length y m)) (le-leb _ _ d_from) (le-leb _ _ d_to))))

-- each test of a date, from all of them
date_tests : (a b c d e f g h i j m n o p : Bool)
    → ((((a && (b && (c && (d && true)))) && e) && (f && (g && true))) && (h && (i && (j && true))))
    && ((m && n) && (o && p)) ≡ true
    → (a ≡ true) × (b ≡ true) × (c ≡ true) × (d ≡ true) × (e ≡ true) × (f ≡ true) × (g ≡ true) × (h ≡ true) × (i ≡ true)
    × (j ≡ true) × (m ≡ true) × (n ≡ true) × (o ≡ true) × (p ≡ true)
date_tests true true true true true true true true true true true true true true k =
    (refl, refl, refl, refl, refl, refl, refl, refl, refl, refl, refl, refl, refl, refl)
date_tests _ _ _ _ _ _ _ _ _ _ _ _ _ _ k = absurd cc

pub date_is : (a b c d e f g h i j : ℕ) → is_date (a ∷ b ∷ c ∷ d ∷ e ∷ f ∷ g ∷ h ∷ i ∷ j ∷ []) ≡ true
    → (is_ascii_digit a ≡ true) × (is_ascii_digit b ≡ true) × (is_ascii_digit c ≡ true) × (is_ascii_digit d ≡ true)
    × ((e == 0x2D) ≡ true)
    × (is_ascii_digit f ≡ true) × (is_ascii_digit g ≡ true) × ((h == 0x2D) ≡ true) × (is_ascii_digit i ≡ true)
    × (is_ascii_digit j ≡ true)
    × (nat_le 1 (pair f g) ≡ true) × (nat_le (pair f g) 12 ≡ true) × (nat_le 1 (pair i j) ≡ true)
    × (nat_le (pair i j) (month_length (pair a b * 100 + pair c d) (pair f g)) ≡ true)
date_is a b c d e f g h i j k =
    date_tests (is_ascii_digit a) (is_ascii_digit b) (is_ascii_digit c) (is_ascii_digit d) (e == 0x2D)
    (is_ascii_digit f) (is_ascii_digit g) (h == 0x2D) (is_ascii_digit i) (is_ascii_digit j)
    (nat_le 1 (pair f g)) (nat_le (pair f g) 12) (nat_le 1 (pair i j))
    (nat_le (pair i j) (month_length (pair a b * 100 + pair c d) (pair f g))) k

date_spelled : (a b c d e f g h i j year month day : ℕ) → two (year / 100) ≡ a ∷ b ∷ [] → two (year % 100) ≡ c ∷ d ∷ []
    → e ≡ 0x2D → two month ≡ f ∷ g ∷ [] → h ≡ 0x2D → two day ≡ i ∷ j ∷ []
    → (a ∷ b ∷ c ∷ d ∷ e ∷ f ∷ g ∷ h ∷ i ∷ j ∷ []) ≡ four year ++ (0x2D ∷ two month) ++ (0x2D ∷ two day)
date_spelled a b c d e f g h i j year month day p q r s t u = cc

pub date_from : (t : List ℕ) → is_date t ≡ true → LocalDate t
date_from (a ∷ b ∷ c ∷ d ∷ e ∷ f ∷ g ∷ h ∷ i ∷ j ∷ []) k =
    let (at_a, at_b, at_c, at_d, at_e, at_f, at_g, at_h, at_i, at_j, m_from, m_to, d_from, d_to) =
    date_is a b c d e f g h i j k in
    let (prefix, prefix_below) = two_pair a b at_a at_b in
    let (back, back_below) = two_pair c d at_c at_d in
    let high : (pair a b * 100 + pair c d) / 100 ≡ pair a b = omega arith in
    let low : (pair a b * 100 + pair c d) % 100 ≡ pair c d = omega arith in (
      pair a b * 100 + pair c d,
      pair f g,
      pair i j,
      omega arith,
      leb-true _ _ m_from,
      leb-true _ _ m_to,
      leb-true _ _ d_from,
      leb-true _ _ d_to,
      date_spelled a b c d e f g h i j (pair a b * 100 + pair c d) (pair f g) (pair i j) (ap two high ∙ prefix)
          (ap two low ∙ back) (eqb-true e 0x2D at_e) (two_pair f g at_f at_g).0 (eqb-true h 0x2D at_h)
          (two_pair i j at_i at_j).0,
    )
date_from _ k = absurd cc

-- ---- hours and minutes

pub minutes_to : (t : List ℕ) → Minutes t → (is_minutes t ≡ true) × (length t ≡ 5)
minutes_to t (h, m, h_to, m_to, e) =
    let hour : h < 100 = omega arith in
    let minute : m < 100 = omega arith in (
      rw e (rw (pair_two h hour, pair_two m minute, tens h hour, ones h, tens m minute, ones m)
          (and_from (nat_lt h 24) (nat_lt m 60) (lt-ltb _ _ h_to) (lt-ltb _ _ m_to))),
      rw e refl,
    )

minutes_tests : (a b c d e f g : Bool) → (((a && b) && c) && (d && e)) && (f && g) ≡ true
    → (a ≡ true) × (b ≡ true) × (c ≡ true) × (d ≡ true) × (e ≡ true) × (f ≡ true) × (g ≡ true)
minutes_tests true true true true true true true k = (refl, refl, refl, refl, refl, refl, refl)
minutes_tests _ _ _ _ _ _ _ k = absurd cc

pub minutes_is : (a b c d e : ℕ) → is_minutes (a ∷ b ∷ c ∷ d ∷ e ∷ []) ≡ true
    → (is_ascii_digit a ≡ true) × (is_ascii_digit b ≡ true) × ((c == 0x3A) ≡ true) × (is_ascii_digit d ≡ true)
    × (is_ascii_digit e ≡ true) × (nat_lt (pair a b) 24 ≡ true) × (nat_lt (pair d e) 60 ≡ true)
minutes_is a b c d e k =
    minutes_tests (is_ascii_digit a) (is_ascii_digit b) (c == 0x3A) (is_ascii_digit d) (is_ascii_digit e)
    (nat_lt (pair a b) 24) (nat_lt (pair d e) 60) k

minutes_spelled : (a b c d e hour minute : ℕ) → two hour ≡ a ∷ b ∷ [] → c ≡ 0x3A → two minute ≡ d ∷ e ∷ []
    → (a ∷ b ∷ c ∷ d ∷ e ∷ []) ≡ two hour ++ (0x3A ∷ two minute)
minutes_spelled a b c d e hour minute p q r = cc

pub minutes_from : (t : List ℕ) → is_minutes t ≡ true → Minutes t
minutes_from (a ∷ b ∷ c ∷ d ∷ e ∷ []) k =
    let (at_a, at_b, at_c, at_d, at_e, h_to, m_to) = minutes_is a b c d e k in (
      pair a b,
      pair d e,
      ltb-true _ _ h_to,
      ltb-true _ _ m_to,
      minutes_spelled a b c d e (pair a b) (pair d e) (two_pair a b at_a at_b).0 (eqb-true c 0x3A at_c)
          (two_pair d e at_d at_e).0,
    )
minutes_from _ k = absurd cc

-- ---- times

-- hh:mm at the start
minutes_prefix : (a rest : List ℕ) → Minutes a → (is_minutes (take 5 (a ++ rest)) ≡ true) × (drop 5 (a ++ rest) ≡ rest)
minutes_prefix a rest h =
    let (test, five) = minutes_to a h in
    (rw (take_at a rest 5 five) test, drop_at a rest 5 five)

fraction_to : (t : List ℕ) → Maybe SecondFraction t → is_second_fraction t ≡ true
fraction_to t (inl e) = rw e refl
fraction_to t (inr (a, [], e, dot, digits)) = absurd (omega (arith, digits.0))
fraction_to t (inr (a, d ∷ ds, e, dot, digits)) = rw (e, dot) digits.1

fraction_from : (t : List ℕ) → is_second_fraction t ≡ true → Maybe SecondFraction t
fraction_from [] k = inl refl
fraction_from (c ∷ []) k = absurd cc
fraction_from (c ∷ d ∷ ds) k =
    let (dot, digits) = and_parts (c == 0x2E) (list_all is_ascii_digit (d ∷ ds)) k in
    inr (c ∷ [], d ∷ ds, refl, ap (λ (b : ℕ). b ∷ []) (eqb-true c 0x2E dot), (omega arith, digits))

strict_time_to : (profile : Profile) (t : List ℕ) → (Seconds ⨾ Maybe SecondFraction) t → is_time profile t ≡ true
strict_time_to profile t (ab, c, e, (a, b, f, minutes, (s, s_to, g)), fraction) =
    let (test, rest) = minutes_prefix a (b ++ c) minutes in
    let below : s < 100 = omega arith in
    let ends : is_time_end (b ++ c) ≡ true =
    rw g (rw (tens s below, ones s, pair_two s below, le-leb _ _ s_to) (fraction_to c fraction)) in
    rw (e, f) (subst (λ (u : List ℕ). is_time profile u ≡ true) (sym (append_assoc a b c))
    (and_from (is_minutes (take 5 (a ++ (b ++ c))))
    (is_time_end (drop 5 (a ++ (b ++ c))) || is_short profile (drop 5 (a ++ (b ++ c)))) test
    (rw rest (or_left (is_time_end (b ++ c)) (is_short profile (b ++ c)) ends))))

pub time_to : (profile : Profile) (t : List ℕ) → LocalTime profile t → is_time profile t ≡ true
time_to Strict t h = strict_time_to Strict t h
time_to Wide t (inl h) = strict_time_to Wide t h
time_to Wide t (inr h) =
    let (test, rest) = minutes_prefix t [] h in
    subst (λ (u : List ℕ). is_time Wide u ≡ true) (append-nil t)
    (and_from (is_minutes (take 5 (t ++ []))) (is_time_end (drop 5 (t ++ [])) || is_short Wide (drop 5 (t ++ []))) test
    (rw rest refl))

pub seconds_tests : (a b c d : Bool) → ((a && b) && c) && d ≡ true → (a ≡ true) × (b ≡ true) × (c ≡ true) × (d ≡ true)
seconds_tests true true true true k = (refl, refl, refl, refl)
seconds_tests _ _ _ _ k = absurd cc

seconds_spelled : (a b c second : ℕ) → a ≡ 0x3A → two second ≡ b ∷ c ∷ [] → (a ∷ b ∷ c ∷ []) ≡ 0x3A ∷ two second
seconds_spelled a b c second p q = cc

time_end_from : (m e : List ℕ) → Minutes m → is_time_end e ≡ true → (Seconds ⨾ Maybe SecondFraction) (m ++ e)
time_end_from m (a ∷ b ∷ c ∷ more) h k =
    let (seconds, fraction) = and_parts (is_seconds a b c) (is_second_fraction more) k in
    let (at_a, at_b, at_c, s_to) =
    seconds_tests (a == 0x3A) (is_ascii_digit b) (is_ascii_digit c) (nat_le (pair b c) 60) seconds in (
      m ++ (a ∷ b ∷ c ∷ []),
      more,
      sym (append_assoc m (a ∷ b ∷ c ∷ []) more),
      (
        m,
        a ∷ b ∷ c ∷ [],
        refl,
        h,
        (
          pair b c,
          leb-true _ _ s_to,
          seconds_spelled a b c (pair b c) (eqb-true a 0x3A at_a) (two_pair b c at_b at_c).0,
        ),
      ),
      fraction_from more fraction,
    )
time_end_from m _ h k = absurd cc

-- the text by its first five bytes and the rest
time_parts_from : (profile : Profile) (m e : List ℕ) → Minutes m → (is_time_end e || is_short profile e) ≡ true
    → LocalTime profile (m ++ e)
time_parts_from Strict m e h k =
    elim (or_cases (is_time_end e) (is_short Strict e) k) [
      | inl ends ↦ time_end_from m e h ends
      | inr short ↦ absurd cc
    ]
time_parts_from Wide m [] h k = inr (rw append-nil h)
time_parts_from Wide m (c ∷ cs) h k =
    elim (or_cases (is_time_end (c ∷ cs)) false k) [
      | inl ends ↦ inl (time_end_from m (c ∷ cs) h ends)
      | inr short ↦ absurd cc
    ]

pub time_from : (profile : Profile) (t : List ℕ) → is_time profile t ≡ true → LocalTime profile t
time_from profile t k =
    let (prefix, back) = and_parts (is_minutes (take 5 t)) (is_time_end (drop 5 t) || is_short profile (drop 5 t)) k in
    subst (LocalTime profile) (take-append-drop 5 t)
    (time_parts_from profile (take 5 t) (drop 5 t) (minutes_from (take 5 t) prefix) back)

-- ---- dates with times

pub date_ten : (t : List ℕ) → LocalDate t → length t ≡ 10
date_ten t (y, m, d, y_below, m_from, m_to, d_from, d_to, e) = rw e refl

-- the bytes after a prefix and one byte
pub drop_after : (a : List ℕ) (c : ℕ) (rest : List ℕ) (n : ℕ) → n ≡ suc (length a) → drop n (a ++ (c ∷ rest)) ≡ rest
drop_after [] c rest n h = rw h refl
drop_after (x ∷ xs) c rest n h = rw h (drop_after xs c rest (suc (length xs)) refl)

-- a place whose byte passes is in the text
pub within : (t : List ℕ) (n : ℕ) (p : ℕ → Bool) → p 0 ≡ false → p (slice_index t n) ≡ true → n < length t
within t n p none k =
    elim (cases_lt n (length t)) [
      | inl lt ↦ lt
      | inr le ↦ let at : slice_index t n ≡ 0 = get_or_past t n 0 le in let yes = rw at at k in absurd cc
    ]

pub date_time_to : (profile : Profile) (t : List ℕ) → LocalDateTime profile t → is_date_time profile t ≡ true
date_time_to profile t (a, b, e, date, (s, time, f, (c, one, sep), is)) =
    let ten = date_ten a date in
    let rest : drop 11 (a ++ (c ∷ time)) ≡ time = drop_after a c time 11 (omega arith) in
    rw (
      e,
      f,
      one,
    ) (rw (take_at a (c ∷ time) 10 ten, get_or_at a c time 0 10 ten, rest, date_to a date, sep)
    (time_to profile time is))

-- a text by the bytes before a place, the byte there and the bytes after it
pub parted : (t : List ℕ) (n : ℕ) → n < length t → t ≡ take n t ++ (slice_index t n ∷ drop (suc n) t)
parted t n h = sym (take-append-drop n t) ∙ ap (λ (u : List ℕ). take n t ++ u) (drop-cons t n 0 h)

pub date_time_from : (profile : Profile) (t : List ℕ) → is_date_time profile t ≡ true → LocalDateTime profile t
date_time_from profile t k =
    let (date, more) =
    and_parts (is_date (take 10 t)) (is_between_date_and_time (slice_index t 10) && is_time profile (drop 11 t)) k in
    let (sep, time) = and_parts (is_between_date_and_time (slice_index t 10)) (is_time profile (drop 11 t)) more in (
      take 10 t,
      slice_index t 10 ∷ drop 11 t,
      parted t 10 (within t 10 (is_between_date_and_time) refl sep),
      date_from (take 10 t) date,
      (slice_index t 10 ∷ [], drop 11 t, refl, (slice_index t 10, refl, sep), time_from profile (drop 11 t) time),
    )

-- ---- dates and times with an offset

-- a text cut at a place: the byte there, the bytes before it and those after it
split_at : (a : List ℕ) (c : ℕ) (m : List ℕ) (n : ℕ) → n ≡ length a
    → (slice_index (a ++ (c ∷ m)) n ≡ c) × (take n (a ++ (c ∷ m)) ≡ a) × (drop (suc n) (a ++ (c ∷ m)) ≡ m)
split_at a c m n h = (get_or_at a c m 0 n (sym h), take_at a (c ∷ m) n (sym h), drop_after a c m (suc n) (ap suc h))

ends_in_zulu : (profile : Profile) (a : List ℕ) (c : ℕ) (n : ℕ) → n ≡ length a → is_zulu c ≡ true
    → is_date_time profile a ≡ true
    → (is_zulu (slice_index (a ++ (c ∷ [])) n) && is_date_time profile (take n (a ++ (c ∷ [])))) ≡ true
ends_in_zulu profile a c n h zulu date =
    let (at, prefix, after) = split_at a c [] n h in
    rw (at, prefix, zulu) date

ends_in_minutes : (profile : Profile) (a : List ℕ) (c : ℕ) (m : List ℕ) (n k : ℕ) → n ≡ length a → k ≡ suc n
    → is_sign c ≡ true → is_minutes m ≡ true → is_date_time profile a ≡ true
    → ((is_sign (slice_index (a ++ (c ∷ m)) n) && is_minutes (drop k (a ++ (c ∷ m))))
    && is_date_time profile (take n (a ++ (c ∷ m)))) ≡ true
ends_in_minutes profile a c m n k h g sign minutes date =
    let (at, prefix, after) = split_at a c m n h in
    rw (g, at, prefix, after, sign, minutes) date

pub offset_date_time_to : (profile : Profile) (t : List ℕ) → OffsetDateTime profile t
    → is_offset_date_time profile t ≡ true
offset_date_time_to profile t (a, b, e, local, inl (c, one, zulu)) =
    let n = length (a ++ (c ∷ [])) in
    rw (e, one) (or_left
    (is_zulu (slice_index (a ++ (c ∷ [])) (n - 1)) && is_date_time profile (take (n - 1) (a ++ (c ∷ []))))
    ((is_sign (slice_index (a ++ (c ∷ [])) (n - 6)) && is_minutes (drop (n - 5) (a ++ (c ∷ []))))
    && is_date_time profile (take (n - 6) (a ++ (c ∷ []))))
    (ends_in_zulu profile a c (n - 1) (omega (arith, length-append a (c ∷ []))) zulu (date_time_to profile a local)))
offset_date_time_to profile t (a, b, e, local, inr (s, m, f, (c, one, sign), minutes)) =
    let (test, five) = minutes_to m minutes in
    let n = length (a ++ (c ∷ m)) in
    let len : n ≡ length a + suc (length m) = length-append a (c ∷ m) in
    rw (e, f, one) (or_right
    (is_zulu (slice_index (a ++ (c ∷ m)) (n - 1)) && is_date_time profile (take (n - 1) (a ++ (c ∷ m))))
    ((is_sign (slice_index (a ++ (c ∷ m)) (n - 6)) && is_minutes (drop (n - 5) (a ++ (c ∷ m))))
    && is_date_time profile (take (n - 6) (a ++ (c ∷ m))))
    (ends_in_minutes profile a c m (n - 6) (n - 5) (omega arith) (omega arith) sign test
    (date_time_to profile a local)))

-- a text that is a date and a time is not empty
pub date_time_some : (profile : Profile) (t : List ℕ) → is_date_time profile t ≡ true → 10 < length t
date_time_some profile t k =
    let (date, more) =
    and_parts (is_date (take 10 t)) (is_between_date_and_time (slice_index t 10) && is_time profile (drop 11 t)) k in
    let (sep, time) = and_parts (is_between_date_and_time (slice_index t 10)) (is_time profile (drop 11 t)) more in
    within t 10 is_between_date_and_time refl sep

zulu_from : (profile : Profile) (t : List ℕ) (n : ℕ) → suc n ≡ length t → is_zulu (slice_index t n) ≡ true
    → is_date_time profile (take n t) ≡ true → OffsetDateTime profile t
zulu_from profile t n h zulu local =
    let none : drop (suc n) t ≡ [] = drop_of_length-le t {i = suc n} (omega arith) in (
      take n t,
      slice_index t n ∷ drop (suc n) t,
      parted t n (omega arith),
      date_time_from profile (take n t) local,
      inl (slice_index t n, ap (λ (u : List ℕ). slice_index t n ∷ u) none, zulu),
    )

minutes_offset_from : (profile : Profile) (t : List ℕ) (n : ℕ) → n < length t → is_sign (slice_index t n) ≡ true
    → is_minutes (drop (suc n) t) ≡ true → is_date_time profile (take n t) ≡ true → OffsetDateTime profile t
minutes_offset_from profile t n h sign minutes local = (
  take n t,
  slice_index t n ∷ drop (suc n) t,
  parted t n h,
  date_time_from profile (take n t) local,
  inr (
    slice_index t n ∷ [],
    drop (suc n) t,
    refl,
    (slice_index t n, refl, sign),
    minutes_from (drop (suc n) t) minutes,
  ),
)

-- a text whose prefix is a date and a time is longer than the prefix's bound
prefix_long : (profile : Profile) (t : List ℕ) (n : ℕ) → is_date_time profile (take n t) ≡ true → 10 < n
prefix_long profile t n k = omega (arith, date_time_some profile (take n t) k, length-take n t)

pub offset_date_time_from : (profile : Profile) (t : List ℕ) → is_offset_date_time profile t ≡ true
    → OffsetDateTime profile t
offset_date_time_from profile t k =
    let n = length t in
    elim (or_cases (is_zulu (slice_index t (n - 1)) && is_date_time profile (take (n - 1) t))
    ((is_sign (slice_index t (n - 6)) && is_minutes (drop (n - 5) t)) && is_date_time profile (take (n - 6) t)) k) [
      | inl z ↦
          let (zulu, local) = and_parts (is_zulu (slice_index t (n - 1))) (is_date_time profile (take (n - 1) t)) z in
          zulu_from profile t (n - 1) (omega (arith, prefix_long profile t (n - 1) local)) zulu local
      | inr m ↦
          let (prefix, local) =
          and_parts (is_sign (slice_index t (n - 6)) && is_minutes (drop (n - 5) t))
          (is_date_time profile (take (n - 6) t)) m in
          let (sign, minutes) = and_parts (is_sign (slice_index t (n - 6))) (is_minutes (drop (n - 5) t)) prefix in
          let long = prefix_long profile t (n - 6) local in
          let next : n - 5 ≡ suc (n - 6) = omega arith in
          minutes_offset_from profile t (n - 6) (omega arith) sign (rw next at minutes) local
    ]
