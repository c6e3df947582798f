-- The bytes that show a date, a time and both together: no two kinds share a text.
--
-- Each kind is known by bytes at fixed places: a date has ten bytes and a dash at the fifth, a time has a colon at the
-- third, and a date with a time has more than fifteen bytes (`ShowsDate`, `ShowsTime`, `ShowsDateTime`). The first part
-- shows that texts of each kind have these; the second compares two kinds at a time, where the bytes or the lengths
-- differ. The hard pair is a date with a time, with an offset and without: there the first byte of the offset is no
-- byte of a time (`offset_no_clock`).
--
-- Theorems: `date_shows`, `time_shows`, `date_time_shows`, `offset_date_time_shows`: what each kind has; and for each
-- two kinds that a text is not both, as `date_time_not_offset_date_time`.
use Rattle.std.proofs.Common.{◌≡◌, ℕ, ◌<◌, ◌≤◌, Bool, true, false, ◌&&◌, ◌||◌, ◌==◌, List, [], ◌∷◌, ◌++◌, length, take}
use Rattle.std.proofs.Common.{drop, refl, ap, ◌∙◌, inl, inr, arith, eqb-true, length-append}
use Rattle.std.specs.Prelude.{slice_index}
use Rattle.std.proofs.lemmas.Bool.{and_parts, or_cases}
use Rattle.std.proofs.lemmas.Bool.Decides.{nat_tests}
use Rattle.std.proofs.lemmas.List.{take-append-le, drop-append-le, get_or_append_left, get_or-take, get_or-drop}
use Rattle.std.proofs.lemmas.List.{length-drop, take-take}
use Rattle.std.proofs.lemmas.List.Folds.{list_all-append}
use Rattle.std.specs.List.{list_all}
use Rattle.std.specs.Char.{is_ascii_digit}
use Rattle.keep_types.specs.declared.leaf.Profile.{Profile}
use Rattle.keep_types.specs.declared.leaf.Profile.TheVariants.{Strict, Wide}
use Rattle.keep_token.specs.Abnf.{is_word}
use Rattle.keep_token.specs.Numbers.{is_sign}
use Rattle.keep_token.specs.Dates.{OffsetDateTime}
use Rattle.keep_token.specs.Leaves.{has_date_shape}
use Rattle.keep_token.specs.Words.{is_date, is_minutes, is_second_fraction, is_time_end, is_seconds, is_short, is_time}
use Rattle.keep_token.specs.Words.{is_between_date_and_time, is_date_time, is_zulu, is_offset_date_time}
use Rattle.keep_token.proofs.DateLaws.{date_is, minutes_is, seconds_tests, minutes_to, date_time_to}
use Rattle.keep_token.proofs.DateLaws.{offset_date_time_from}

-- ---- dates

-- what a date shows
pub record ShowsDate (t : List ℕ) : Type 0 where
  pub ten : length t ≡ 10
  pub shape : has_date_shape t ≡ true
  pub digit : is_ascii_digit (slice_index t 0) ≡ true
  pub prefix : list_all is_ascii_digit (take 4 t) ≡ true
  pub third : is_ascii_digit (slice_index t 2) ≡ true
  pub dash : slice_index t 4 ≡ 0x2D
  pub words : list_all is_word t ≡ true

digit_word : (c : ℕ) → is_ascii_digit c ≡ true → is_word c ≡ true
digit_word c h = grind (arith, nat_tests)

pub date_shows : (t : List ℕ) → is_date t ≡ true → ShowsDate t
date_shows (a ∷ b ∷ c ∷ d ∷ e ∷ f ∷ g ∷ h ∷ i ∷ j ∷ []) k =
    let (at_a, at_b, at_c, at_d, at_e, at_f, at_g, at_h, at_i, at_j, m_from, m_to, d_from, d_to) =
    date_is a b c d e f g h i j k in
    record {
      ten = refl;
      shape = rw (at_a, at_b, at_c, at_d, at_e, at_f, at_g, at_h, at_i, at_j) refl;
      digit = at_a;
      prefix = rw (at_a, at_b, at_c, at_d) refl;
      third = at_c;
      dash = eqb-true e 0x2D at_e;
      words = rw (
        digit_word a at_a,
        digit_word b at_b,
        digit_word c at_c,
        digit_word d at_d,
        eqb-true e 0x2D at_e,
        digit_word f at_f,
        digit_word g at_g,
        eqb-true h 0x2D at_h,
        digit_word i at_i,
        digit_word j at_j,
      ) refl;
    }
date_shows _ k = absurd cc

-- ---- times

-- a byte of a time
abbrev pub is_clock : ℕ → Bool
is_clock c = (is_ascii_digit c || c == 0x2E) || c == 0x3A

-- what a time shows
pub record ShowsTime (t : List ℕ) : Type 0 where
  pub long : 4 < length t
  pub digit : is_ascii_digit (slice_index t 0) ≡ true
  pub prefix : list_all is_ascii_digit (take 2 t) ≡ true
  pub colon : slice_index t 2 ≡ 0x3A
  pub fifth : is_ascii_digit (slice_index t 4) ≡ true
  pub clock : list_all is_clock t ≡ true

digit_clock : (c : ℕ) → is_ascii_digit c ≡ true → is_clock c ≡ true
digit_clock c h = grind (arith, nat_tests)

-- a run of one class is a run of a larger one
pub passes_too : (p q : ℕ → Bool) → ((c : ℕ) → p c ≡ true → q c ≡ true) → (t : List ℕ) → list_all p t ≡ true
    → list_all q t ≡ true
passes_too p q f [] h = refl
passes_too p q f (c ∷ cs) h =
    let (here, more) = and_parts (p c) (list_all p cs) h in
    rw (f c here, passes_too p q f cs more) refl

pub clock_word : (c : ℕ) → is_clock c ≡ true → is_word c ≡ true
clock_word c h = grind (arith, nat_tests)

fraction_clock : (t : List ℕ) → is_second_fraction t ≡ true → list_all is_clock t ≡ true
fraction_clock [] k = refl
fraction_clock (c ∷ []) k = absurd cc
fraction_clock (c ∷ d ∷ ds) k =
    let (dot, digits) = and_parts (c == 0x2E) (list_all is_ascii_digit (d ∷ ds)) k in
    let rest : list_all is_clock (d ∷ ds) ≡ true = passes_too is_ascii_digit is_clock digit_clock (d ∷ ds) digits in
    rw (eqb-true c 0x2E dot) rest

time_end_clock : (t : List ℕ) → is_time_end t ≡ true → list_all is_clock t ≡ true
time_end_clock (a ∷ b ∷ c ∷ more) k =
    let (seconds, fraction) = and_parts (is_seconds a b c) (is_second_fraction more) k in
    let (at_a, at_b, at_c, s_to) = seconds_tests (a == 0x3A) (is_ascii_digit b) (is_ascii_digit c) _ seconds in
    rw (eqb-true a 0x3A at_a, digit_clock b at_b, digit_clock c at_c) (fraction_clock more fraction)
time_end_clock _ k = absurd cc

time_rest_clock : (profile : Profile) (t : List ℕ) → (is_time_end t || is_short profile t) ≡ true
    → list_all is_clock t ≡ true
time_rest_clock profile [] k = refl
time_rest_clock Strict (c ∷ cs) k =
    elim (or_cases (is_time_end (c ∷ cs)) false k) [
      | inl ends ↦ time_end_clock (c ∷ cs) ends
      | inr short ↦ absurd cc
    ]
time_rest_clock Wide (c ∷ cs) k =
    elim (or_cases (is_time_end (c ∷ cs)) false k) [
      | inl ends ↦ time_end_clock (c ∷ cs) ends
      | inr short ↦ absurd cc
    ]

pub time_shows : (profile : Profile) (t : List ℕ) → is_time profile t ≡ true → ShowsTime t
time_shows profile (a ∷ b ∷ c ∷ d ∷ e ∷ more) k =
    let (minutes, rest) =
    and_parts (is_minutes (a ∷ b ∷ c ∷ d ∷ e ∷ [])) (is_time_end more || is_short profile more) k in
    let (at_a, at_b, at_c, at_d, at_e, h_to, m_to) = minutes_is a b c d e minutes in
    record {
      long = omega arith;
      digit = at_a;
      prefix = rw (at_a, at_b) refl;
      colon = eqb-true c 0x3A at_c;
      fifth = at_e;
      clock = rw (digit_clock a at_a, digit_clock b at_b, eqb-true c 0x3A at_c, digit_clock d at_d, digit_clock e at_e)
          (time_rest_clock profile more rest);
    }
time_shows profile _ k = absurd cc

pub time_words : (profile : Profile) (t : List ℕ) → is_time profile t ≡ true → list_all is_word t ≡ true
time_words profile t k = passes_too is_clock is_word clock_word t (time_shows profile t k).clock

-- ---- dates with times

-- what a date with a time shows, also before an offset
pub record ShowsDateTime (t : List ℕ) : Type 0 where
  pub long : 15 < length t
  pub date : is_date (take 10 t) ≡ true
  pub digit : is_ascii_digit (slice_index t 0) ≡ true
  pub prefix : list_all is_ascii_digit (take 4 t) ≡ true
  pub third : is_ascii_digit (slice_index t 2) ≡ true
  pub dash : slice_index t 4 ≡ 0x2D
  pub between : is_between_date_and_time (slice_index t 10) ≡ true
  pub after : is_ascii_digit (slice_index t 11) ≡ true
  pub words : list_all is_word (drop 11 t) ≡ true

-- the three parts of a date with a time
date_time_parts : (profile : Profile) (t : List ℕ) → is_date_time profile t ≡ true
    → (is_date (take 10 t) ≡ true) × (is_between_date_and_time (slice_index t 10) ≡ true)
    × (is_time profile (drop 11 t) ≡ true)
date_time_parts profile t k =
    let (date, more) =
    and_parts (is_date (take 10 t)) (is_between_date_and_time (slice_index t 10) && is_time profile (drop 11 t)) k in
    let (between, time) = and_parts (is_between_date_and_time (slice_index t 10)) (is_time profile (drop 11 t)) more in
    (date, between, time)

pub date_time_clock : (profile : Profile) (t : List ℕ) → is_date_time profile t ≡ true
    → list_all is_clock (drop 11 t) ≡ true
date_time_clock profile t k = (time_shows profile (drop 11 t) (date_time_parts profile t k).2).clock

pub date_time_shows : (profile : Profile) (t : List ℕ) → is_date_time profile t ≡ true → ShowsDateTime t
date_time_shows profile t k =
    let (date, between, time) = date_time_parts profile t k in
    let d = date_shows (take 10 t) date in
    let w = time_shows profile (drop 11 t) time in
    record {
      long = omega (arith, w.long, length-drop 11 t);
      date = date;
      digit = rw (get_or-take 10 t 0 0 (omega arith)) at d.digit;
      prefix = rw (take-take 4 10 t (omega arith)) at d.prefix;
      third = rw (get_or-take 10 t 2 0 (omega arith)) at d.third;
      dash = rw (get_or-take 10 t 4 0 (omega arith)) at d.dash;
      between = between;
      after = rw get_or-drop at w.digit;
      words = passes_too is_clock is_word clock_word (drop 11 t) w.clock;
    }

shows_longer : (a b : List ℕ) → ShowsDateTime a → list_all is_word b ≡ true → ShowsDateTime (a ++ b)
shows_longer a b s h =
    let long = s.long in
    let ten : take 10 (a ++ b) ≡ take 10 a = take-append-le 10 a b (omega arith) in
    let four : take 4 (a ++ b) ≡ take 4 a = take-append-le 4 a b (omega arith) in
    let rest : drop 11 (a ++ b) ≡ drop 11 a ++ b = drop-append-le 11 a b (omega arith) in
    let at_0 : slice_index (a ++ b) 0 ≡ slice_index a 0 = get_or_append_left a b 0 0 (omega arith) in
    let at_2 : slice_index (a ++ b) 2 ≡ slice_index a 2 = get_or_append_left a b 0 2 (omega arith) in
    let at_4 : slice_index (a ++ b) 4 ≡ slice_index a 4 = get_or_append_left a b 0 4 (omega arith) in
    let at_10 : slice_index (a ++ b) 10 ≡ slice_index a 10 = get_or_append_left a b 0 10 (omega arith) in
    let at_11 : slice_index (a ++ b) 11 ≡ slice_index a 11 = get_or_append_left a b 0 11 (omega arith) in
    record {
      long = omega (arith, length-append a b);
      date = rw ten s.date;
      digit = rw at_0 s.digit;
      prefix = rw four s.prefix;
      third = rw at_2 s.third;
      dash = rw at_4 s.dash;
      between = rw at_10 s.between;
      after = rw at_11 s.after;
      words = rw (rest, list_all-append is_word (drop 11 a) b, s.words) h;
    }

-- a text that ends in an offset
data EndsInOffset (profile : Profile) (t : List ℕ) : Type 0 where
  ends : (a : List ℕ) (c : ℕ) (m : List ℕ) → t ≡ a ++ (c ∷ m) → is_date_time profile a ≡ true
      → list_all is_word (c ∷ m) ≡ true → is_clock c ≡ false → EndsInOffset profile t

zulu_word : (c : ℕ) → is_zulu c ≡ true → (is_word c ≡ true) × (is_clock c ≡ false)
zulu_word c h = (grind (arith, nat_tests), grind (arith, nat_tests))

sign_word : (c : ℕ) → is_sign c ≡ true → (is_word c ≡ true) × (is_clock c ≡ false)
sign_word c h = (grind (arith, nat_tests), grind (arith, nat_tests))

minutes_word : (t : List ℕ) → is_minutes t ≡ true → list_all is_word t ≡ true
minutes_word (a ∷ b ∷ c ∷ d ∷ e ∷ []) k =
    let (at_a, at_b, at_c, at_d, at_e, h_to, m_to) = minutes_is a b c d e k in
    rw (digit_word a at_a, digit_word b at_b, eqb-true c 0x3A at_c, digit_word d at_d, digit_word e at_e) refl
minutes_word _ k = absurd cc

ends_in_offset : (profile : Profile) (t : List ℕ) → OffsetDateTime profile t → EndsInOffset profile t
ends_in_offset profile t (a, b, e, local, inl (c, one, zulu)) =
    let (word, other) = zulu_word c zulu in
    ends a c [] (e ∙ ap (λ (u : List ℕ). a ++ u) one) (date_time_to profile a local) (rw word refl) other
ends_in_offset profile t (a, b, e, local, inr (s, m, f, (c, one, sign), minutes)) =
    let (word, other) = sign_word c sign in
    let tail : b ≡ c ∷ m = f ∙ ap (λ (u : List ℕ). u ++ m) one in
    ends a c m (e ∙ ap (λ (u : List ℕ). a ++ u) tail) (date_time_to profile a local)
    (rw word (minutes_word m (minutes_to m minutes).0)) other

pub offset_date_time_shows : (profile : Profile) (t : List ℕ) → is_offset_date_time profile t ≡ true → ShowsDateTime t
offset_date_time_shows profile t k =
    elim (ends_in_offset profile t (offset_date_time_from profile t k)) [
      | ends a c m e local words other ↦ rw e (shows_longer a (c ∷ m) (date_time_shows profile a local) words)
    ]

-- ---- no two kinds share a text

-- what would give a contradiction is not so
refuted : (b : Bool) → (b ≡ true → ⊥) → b ≡ false
refuted true h = absurd (h refl)
refuted false h = refl

-- of two tests that exclude one another, the other excludes the first
other_way : (p q : Bool) → (p ≡ true → q ≡ false) → q ≡ true → p ≡ false
other_way true q h k = absurd (let f = h refl in cc)
other_way false q h k = refl

digit_no_colon : (c : ℕ) → is_ascii_digit c ≡ true → c ≡ 0x3A → ⊥
digit_no_colon c h e = let k = rw e at h in cc

pub date_not_time : (profile : Profile) (t : List ℕ) → is_date t ≡ true → is_time profile t ≡ false
date_not_time profile t k =
    refuted (is_time profile t) (λ h.
    digit_no_colon (slice_index t 2) (date_shows t k).third (time_shows profile t h).colon)

pub date_not_date_time : (profile : Profile) (t : List ℕ) → is_date t ≡ true → is_date_time profile t ≡ false
date_not_date_time profile t k =
    refuted (is_date_time profile t) (λ h. omega (arith, (date_shows t k).ten, (date_time_shows profile t h).long))

pub date_not_offset_date_time : (profile : Profile) (t : List ℕ) → is_date t ≡ true
    → is_offset_date_time profile t ≡ false
date_not_offset_date_time profile t k =
    refuted (is_offset_date_time profile t)
    (λ h. omega (arith, (date_shows t k).ten, (offset_date_time_shows profile t h).long))

pub time_not_date : (profile : Profile) (t : List ℕ) → is_time profile t ≡ true → is_date t ≡ false
time_not_date profile t = other_way (is_date t) (is_time profile t) (date_not_time profile t)

pub time_not_date_time : (profile : Profile) (t : List ℕ) → is_time profile t ≡ true → is_date_time profile t ≡ false
time_not_date_time profile t k =
    refuted (is_date_time profile t)
    (λ h. digit_no_colon (slice_index t 2) (date_time_shows profile t h).third (time_shows profile t k).colon)

pub time_not_offset_date_time : (profile : Profile) (t : List ℕ) → is_time profile t ≡ true
    → is_offset_date_time profile t ≡ false
time_not_offset_date_time profile t k =
    refuted (is_offset_date_time profile t)
    (λ h. digit_no_colon (slice_index t 2) (offset_date_time_shows profile t h).third (time_shows profile t k).colon)

pub date_time_not_date : (profile : Profile) (t : List ℕ) → is_date_time profile t ≡ true → is_date t ≡ false
date_time_not_date profile t = other_way (is_date t) (is_date_time profile t) (date_not_date_time profile t)

pub date_time_not_time : (profile : Profile) (t : List ℕ) → is_date_time profile t ≡ true → is_time profile t ≡ false
date_time_not_time profile t = other_way (is_time profile t) (is_date_time profile t) (time_not_date_time profile t)

-- the first byte of an offset is no byte of a time
offset_no_clock : (a : List ℕ) (c : ℕ) (m : List ℕ) → 11 ≤ length a → is_clock c ≡ false
    → list_all is_clock (drop 11 (a ++ (c ∷ m))) ≡ true → ⊥
offset_no_clock a c m long other all =
    let rest : drop 11 (a ++ (c ∷ m)) ≡ drop 11 a ++ (c ∷ m) = drop-append-le 11 a (c ∷ m) long in
    let split = rw (rest, list_all-append is_clock (drop 11 a) (c ∷ m), other) at all in
    let (prefix, never) = and_parts (list_all is_clock (drop 11 a)) false split in
    cc

pub date_time_not_offset_date_time : (profile : Profile) (t : List ℕ) → is_date_time profile t ≡ true
    → is_offset_date_time profile t ≡ false
date_time_not_offset_date_time profile t k =
    refuted (is_offset_date_time profile t) (λ h. elim (ends_in_offset profile t (offset_date_time_from profile t h)) [
      | ends a c m e local words other ↦
          let clock = rw e at (date_time_clock profile t k) in
          offset_no_clock a c m (omega (arith, (date_time_shows profile a local).long)) other clock
    ])

pub offset_date_time_not_date : (profile : Profile) (t : List ℕ) → is_offset_date_time profile t ≡ true
    → is_date t ≡ false
offset_date_time_not_date profile t =
    other_way (is_date t) (is_offset_date_time profile t) (date_not_offset_date_time profile t)

pub offset_date_time_not_time : (profile : Profile) (t : List ℕ) → is_offset_date_time profile t ≡ true
    → is_time profile t ≡ false
offset_date_time_not_time profile t =
    other_way (is_time profile t) (is_offset_date_time profile t) (time_not_offset_date_time profile t)

pub offset_date_time_not_date_time : (profile : Profile) (t : List ℕ) → is_offset_date_time profile t ≡ true
    → is_date_time profile t ≡ false
offset_date_time_not_date_time profile t =
    other_way (is_date_time profile t) (is_offset_date_time profile t) (date_time_not_offset_date_time profile t)

-- a text too short for a date and a time has no offset after them
pub short_no_offset : (profile : Profile) (t : List ℕ) → length t < 16 → is_offset_date_time profile t ≡ false
short_no_offset profile t short =
    refuted (is_offset_date_time profile t) (λ h. omega (arith, (offset_date_time_shows profile t h).long))
