-- A date, a time or both is the whole word where it comes before what may follow a scalar.
--
-- Theorems: `word_len_run`: a run of bytes of a word is the whole word; `word_len_date_time`: so is a date with a time,
-- even with a space between them; `word_len_offset_date_time`: so is one with an offset.
use Rattle.std.proofs.Common.{◌≡◌, ℕ, ◌+◌, Bool, true, false, not, ◌&&◌, ◌||◌, ◌==◌, List, [], ◌∷◌, ◌++◌, length, take}
use Rattle.std.proofs.Common.{drop, refl, sym, subst, ◌∙◌, inl, inr, arith, ◌⊎◌, take_at, length-append, append_assoc}
use Rattle.std.specs.Prelude.{slice_index, if◌then◌else◌}
use Rattle.std.proofs.lemmas.Bool.Decides.{nat_tests}
use Rattle.std.proofs.lemmas.List.{get_or-append-add, get_or-drop}
use Rattle.std.proofs.lemmas.List.Folds.{list_all-append}
use Rattle.std.specs.List.{list_all, prefix_len}
use Rattle.std.specs.Char.{is_ascii_digit}
use Rattle.keep_types.specs.declared.leaf.Profile.{Profile}
use Rattle.keep_token.specs.Abnf.{is_word}
use Rattle.keep_token.specs.Dates.{LocalDate, LocalTime, LocalDateTime, OffsetDateTime}
use Rattle.keep_token.specs.Leaves.{has_date_shape, word_len}
use Rattle.keep_token.specs.Pieces.{first}
use Rattle.keep_token.specs.Scanning.{may_follow_scalar}
use Rattle.keep_token.specs.Words.{is_date, is_between_date_and_time}
use Rattle.keep_token.proofs.DateLaws.{date_to, time_to, date_time_to, offset_date_time_to, parted, drop_after}
use Rattle.keep_token.proofs.RunLaws.{prefix_len-run}
use Rattle.keep_token.proofs.DateShapes.{ShowsDateTime, date_shows, time_words, date_time_shows, offset_date_time_shows}

-- the byte so far after a prefix
at_after : (t rest : List ℕ) (n k : ℕ) → n ≡ length t + k → slice_index (t ++ rest) n ≡ slice_index rest k
at_after t rest n k h = rw h (get_or-append-add t rest k 0)

else_so : (x y : Bool) (a b : ℕ) → y ≡ false → (if x && y then a else b) ≡ b
else_so true false a b h = refl
else_so false y a b h = refl
else_so true true a b h = absurd cc

then_so : (x y z : Bool) (a b : ℕ) → x ≡ true → y ≡ true → z ≡ true → (if x && (y && z) then a else b) ≡ a
then_so x y z a b h k l = rw (h, k, l) refl

follow_parts : (a b c d : Bool) → not ((a || b) || c) && not d ≡ true → (a ≡ false) × (d ≡ false)
follow_parts false false false false k = (refl, refl)
follow_parts _ _ _ _ k = absurd cc

-- what follows a scalar continues with no word, and is no space before a digit
follows : (rest : List ℕ) → may_follow_scalar rest ≡ true
    → (is_word (first rest) ≡ false) × ((first rest == 0x20 && is_ascii_digit (slice_index rest 1)) ≡ false)
follows rest k =
    follow_parts (is_word (first rest)) (first rest == 0x22) (first rest == 0x27)
    (first rest == 0x20 && is_ascii_digit (slice_index rest 1)) k

-- bytes of a word are the whole word
pub word_len_run : (t rest : List ℕ) → list_all is_word t ≡ true → may_follow_scalar rest ≡ true
    → word_len (t ++ rest) ≡ length t
word_len_run t rest all may =
    let (stop, alone) = follows rest may in
    rw (
      prefix_len-run is_word t rest all stop,
      at_after t rest (length t) 0 (omega arith),
      at_after t rest (length t + 1) 1 refl,
    )
    (else_so (has_date_shape (take (length t) (t ++ rest))) (first rest == 0x20 && is_ascii_digit (slice_index rest 1))
    (length t + 1 + prefix_len is_word (drop (length t + 1) (t ++ rest))) (length t) alone)

-- a date, a space and a run that begins with a digit
word_len_spaced : (d w rest : List ℕ) → is_date d ≡ true → is_ascii_digit (first w) ≡ true → list_all is_word w ≡ true
    → is_word (first rest) ≡ false → word_len (d ++ (0x20 ∷ (w ++ rest))) ≡ 11 + length w
word_len_spaced d [] rest date digit all stop = absurd cc
word_len_spaced d (c ∷ cs) rest date digit all stop =
    let s = date_shows d date in
    let text : List ℕ = d ++ (0x20 ∷ ((c ∷ cs) ++ rest)) in
    let run : prefix_len is_word text ≡ 10 =
    prefix_len-run is_word d (0x20 ∷ ((c ∷ cs) ++ rest)) s.words refl ∙ s.ten in
    let prefix : take 10 text ≡ d = take_at d (0x20 ∷ ((c ∷ cs) ++ rest)) 10 s.ten in
    let space : slice_index text 10 ≡ 0x20 = at_after d (0x20 ∷ ((c ∷ cs) ++ rest)) 10 0 (omega (arith, s.ten)) in
    let next : slice_index text 11 ≡ c = at_after d (0x20 ∷ ((c ∷ cs) ++ rest)) 11 1 (omega (arith, s.ten)) in
    let after : drop 11 text ≡ (c ∷ cs) ++ rest = drop_after d 0x20 ((c ∷ cs) ++ rest) 11 (omega (arith, s.ten)) in
    rw (run, prefix, space, next, after, prefix_len-run is_word (c ∷ cs) rest all stop)
    (then_so (has_date_shape d) true (is_ascii_digit c) _ _ s.shape refl digit)

between_is : (c : ℕ) → is_between_date_and_time c ≡ true → (is_word c ≡ true) ⊎ (c ≡ 0x20)
between_is c h = grind (arith, nat_tests)

word_len_parted : (d : List ℕ) (c : ℕ) (w rest : List ℕ) → is_date d ≡ true → is_between_date_and_time c ≡ true
    → is_ascii_digit (first w) ≡ true → list_all is_word w ≡ true → may_follow_scalar rest ≡ true
    → word_len ((d ++ (c ∷ w)) ++ rest) ≡ length (d ++ (c ∷ w))
word_len_parted d c w rest date between digit all may =
    let s = date_shows d date in
    elim (between_is c between) [
      | inl word ↦ word_len_run (d ++ (c ∷ w)) rest (rw (list_all-append is_word d (c ∷ w), s.words, word) all) may
      | inr space ↦
          let spelled : (d ++ (c ∷ w)) ++ rest ≡ d ++ (0x20 ∷ (w ++ rest)) =
          rw (← space) (append_assoc d (c ∷ w) rest) in
          rw spelled (omega (
            arith,
            word_len_spaced d w rest date digit all (follows rest may).0,
            length-append d (c ∷ w),
            s.ten,
          ))
    ]

word_len_seen : (t rest : List ℕ) → ShowsDateTime t → may_follow_scalar rest ≡ true → word_len (t ++ rest) ≡ length t
word_len_seen t rest s may =
    subst (λ (u : List ℕ). word_len (u ++ rest) ≡ length u) (sym (parted t 10 (omega (arith, s.long))))
    (word_len_parted (take 10 t) (slice_index t 10) (drop 11 t) rest s.date s.between
    (rw (get_or-drop 11 t 0 0) s.after) s.words may)

pub word_len_date : (profile : Profile) (t rest : List ℕ) → LocalDate t → may_follow_scalar rest ≡ true
    → word_len (t ++ rest) ≡ length t
word_len_date profile t rest h may = word_len_run t rest (date_shows t (date_to t h)).words may

pub word_len_time : (profile : Profile) (t rest : List ℕ) → LocalTime profile t → may_follow_scalar rest ≡ true
    → word_len (t ++ rest) ≡ length t
word_len_time profile t rest h may = word_len_run t rest (time_words profile t (time_to profile t h)) may

pub word_len_date_time : (profile : Profile) (t rest : List ℕ) → LocalDateTime profile t → may_follow_scalar rest ≡ true
    → word_len (t ++ rest) ≡ length t
word_len_date_time profile t rest h may =
    word_len_seen t rest (date_time_shows profile t (date_time_to profile t h)) may

pub word_len_offset_date_time : (profile : Profile) (t rest : List ℕ) → OffsetDateTime profile t
    → may_follow_scalar rest ≡ true → word_len (t ++ rest) ≡ length t
word_len_offset_date_time profile t rest h may =
    word_len_seen t rest (offset_date_time_shows profile t (offset_date_time_to profile t h)) may
