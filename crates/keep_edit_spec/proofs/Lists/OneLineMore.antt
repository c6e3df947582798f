-- The last line that passes a test, once there is one line more that leaves the reading as it is.
--
-- If the new line passes, it is the last, or one behind it is, which is then a line later (`last_with`); if it does not
-- pass, the last is as before (`last_without`). So where the new line comes right after line i, and passes only if the
-- last one was at i or later, and does if that was line i, the last is a line later from line i on (`last_still`). The
-- reading before a line has the body that it had, if that line leaves the body as it is (`body_still`).
--
-- Theorems: `last_with`, `last_still`, `body_still`; `none_still`: where none passes; `at_most_last`: a line that
-- passes; `new_before`, `new_from`: the last one's number; `reading_later`, `reading_alike`: the reading before a line.
use Rattle.std.proofs.Common.{◌≡◌, ℕ, zero, suc, ◌<◌, ◌≤◌, Bool, true, false, cond, List, [], ◌∷◌, ◌++◌, length, take}
use Rattle.std.proofs.Common.{refl, sym, ap, ap₂, subst, ◌∙◌, arith, Option, Some, None, inl, inr}
use Rattle.std.specs.Prelude.{nat_lt}
use Rattle.std.specs.Option.{option_map}
use Rattle.std.proofs.lemmas.Bool.{cases_lt, le-ltb, lt-ltb}
use Rattle.std.proofs.lemmas.List.{take-append-le}
use Rattle.keep_syntax.specs.Tree.{Line}
use Rattle.keep_meaning.specs.Marks.{Reading}
use Rattle.keep_meaning.specs.Meaning.{after_line, reading_after_lines}
use Rattle.keep_edit_spec.specs.Lines.{last_line}
use Rattle.keep_edit_spec.proofs.Lists.BodyEnds.{later_before, later_from}
use Rattle.keep_edit_spec.proofs.Lists.Places.{later_line}
use Rattle.keep_edit_spec.proofs.Lists.RemovedOwn.{last_or, last_without}

-- ---- a new line that passes

-- the number of the last: that of the new line, if none behind it passes
abbrev pub or_new : ℕ → Option ℕ → ℕ
or_new n None = n
or_new n (Some j) = cond (nat_lt j n) n (suc j)

pub new_before : (n j : ℕ) → j < n → or_new n (Some j) ≡ n
new_before n j h = rw (lt-ltb j n h) refl

pub new_from : (n j : ℕ) → n ≤ j → or_new n (Some j) ≡ suc j
new_from n j h = rw (le-ltb j n h) refl

new_suc : (n j : ℕ) → suc (or_new n (Some j)) ≡ or_new (suc n) (Some (suc j))
new_suc n j = elim (cases_lt j n) [
  | inl l ↦ ap suc (new_before n j l) ∙ sym (new_before (suc n) (suc j) (omega (arith, l)))
  | inr g ↦ ap suc (new_from n j g) ∙ sym (new_from (suc n) (suc j) (omega (arith, g)))
]

pub last_with : (test : Reading → Line → Bool) (r : Reading) (first : List Line) (l : Line) (more : List Line)
    → after_line (reading_after_lines r first) l ≡ reading_after_lines r first
    → test (reading_after_lines r first) l ≡ true
    → last_line test r (first ++ l ∷ more) ≡ Some (or_new (length first) (last_line test r (first ++ more)))
last_with test r [] l more keeps passes =
    ap₂ (λ (b : Bool) (x : Reading). last_or b (last_line test x more)) passes keeps ∙ by (last_line test r more)
  where
    by : (o : Option ℕ) → last_or true o ≡ Some (or_new 0 o)
    by None = refl
    by (Some n) = ap (λ (m : ℕ). Some m) (sym (new_from 0 n (omega arith)))
last_with test r (x ∷ first) l more keeps passes =
    ap (last_or (test r x)) (last_with test (after_line r x) first l more keeps passes)
    ∙ by (test r x) (last_line test (after_line r x) (first ++ more))
  where
    by : (b : Bool) (o : Option ℕ)
        → last_or b (Some (or_new (length first) o)) ≡ Some (or_new (suc (length first)) (last_or b o))
    by true None = ap (λ (m : ℕ). Some m) (sym (new_before (suc (length first)) 0 (omega arith)))
    by false None = refl
    by b (Some n) = ap (λ (m : ℕ). Some m) (new_suc (length first) n)

-- ---- a line that passes is no later than the last

abbrev AtLeast : ℕ → Option ℕ → Type 0
AtLeast n None = ⊥
AtLeast n (Some j) = n ≤ j

at_least : (test : Reading → Line → Bool) (r : Reading) (pre : List Line) (here : Line) (post : List Line)
    → test (reading_after_lines r pre) here ≡ true → AtLeast (length pre) (last_line test r (pre ++ here ∷ post))
at_least test r [] here post e = by (last_line test (after_line r here) post) (test r here) e
  where
    by : (o : Option ℕ) (b : Bool) → b ≡ true → AtLeast 0 (last_or b o)
    by None true e = omega arith
    by None false e = absurd cc
    by (Some n) b e = omega arith
at_least test r (x ∷ pre) here post e =
    by (last_line test (after_line r x) (pre ++ here ∷ post)) (test r x)
    (at_least test (after_line r x) pre here post e)
  where
    by : (o : Option ℕ) (b : Bool) → AtLeast (length pre) o → AtLeast (suc (length pre)) (last_or b o)
    by None b h = absurd h
    by (Some n) b h = omega (arith, h)

pub at_most_last : (test : Reading → Line → Bool) (r : Reading) (pre : List Line) (here : Line) (post : List Line)
    (j : ℕ) → test (reading_after_lines r pre) here ≡ true → last_line test r (pre ++ here ∷ post) ≡ Some j
    → length pre ≤ j
at_most_last test r pre here post j passes e = subst (AtLeast (length pre)) e (at_least test r pre here post passes)

-- ---- a new line right after line i

module _ (test : Reading → Line → Bool) (r : Reading) (first : List Line) (l : Line) (more : List Line)
    (keeps : after_line (reading_after_lines r first) l ≡ reading_after_lines r first) where
  pub none_still : test (reading_after_lines r first) l ≡ false → last_line test r (first ++ more) ≡ None
      → last_line test r (first ++ l ∷ more) ≡ None
  none_still fails none =
      last_without test r first l more keeps fails ∙ ap (option_map (later_line (length first))) none

  pub last_still : (i j : ℕ) → length first ≡ suc i → last_line test r (first ++ more) ≡ Some j
      → (test (reading_after_lines r first) l ≡ true → i ≤ j)
      → (j ≡ i → test (reading_after_lines r first) l ≡ true)
      → last_line test r (first ++ l ∷ more) ≡ Some (later_line i j)
  last_still i j long last past here = by (test (reading_after_lines r first) l) refl
    where
      by : (b : Bool) → test (reading_after_lines r first) l ≡ b
          → last_line test r (first ++ l ∷ more) ≡ Some (later_line i j)
      by true e =
          let from : i ≤ j = past e in
          let number : or_new (suc i) (Some j) ≡ suc j = elim (cases_lt j (suc i)) [
            | inl less ↦ (let same : suc i ≡ suc j = omega (arith, less, from) in new_before (suc i) j less ∙ same)
            | inr g ↦ new_from (suc i) j g
          ] in
          last_with test r first l more keeps e
          ∙ ap₂ (λ (n : ℕ) (o : Option ℕ). Some (or_new n o)) long last
          ∙ ap (λ (m : ℕ). Some m) (number ∙ sym (later_from i j from))
      by false e =
          let other : j ≡ i → ⊥ = λ is. (let no : true ≡ false = sym (here is) ∙ e in absurd cc) in
          let number : later_line (suc i) j ≡ later_line i j = elim (cases_lt j i) [
            | inl less ↦ later_before (suc i) j (omega (arith, less)) ∙ sym (later_before i j less)
            | inr g ↦ (elim (cases_lt j (suc i)) [
              | inl less ↦ absurd (other (omega (arith, less, g)))
              | inr past ↦ later_from (suc i) j past ∙ sym (later_from i j g)
            ])
          ] in
          last_without test r first l more keeps e
          ∙ ap₂ (λ (n : ℕ) (o : Option ℕ). option_map (later_line n) o) long last
          ∙ ap (λ (m : ℕ). Some m) number

-- ---- the reading before a line

pub reading_later : (r : Reading) (first : List Line) (l : Line) (more : List Line) (m : ℕ)
    → after_line (reading_after_lines r first) l ≡ reading_after_lines r first → length first ≤ m
    → reading_after_lines r (take (suc m) (first ++ l ∷ more)) ≡ reading_after_lines r (take m (first ++ more))
reading_later r [] l more m keeps h = ap (λ (x : Reading). reading_after_lines x (take m more)) keeps
reading_later r (x ∷ first) l more zero keeps h =
    absurd (let few : suc (length first) ≤ 0 = h in omega (arith, few))
reading_later r (x ∷ first) l more (suc m) keeps h =
    reading_later (after_line r x) first l more m keeps
    (let few : suc (length first) ≤ suc m = h in omega (arith, few))

-- in lines that begin alike
pub reading_alike : (r : Reading) (first more others : List Line) (m : ℕ) → m ≤ length first
    → reading_after_lines r (take m (first ++ more)) ≡ reading_after_lines r (take m (first ++ others))
reading_alike r first more others m h =
    ap (reading_after_lines r) (take-append-le m first more h ∙ sym (take-append-le m first others h))

-- before line j, if line j leaves the body as it is
pub body_still : (r : Reading) (first : List Line) (l : Line) (more : List Line) (j k : ℕ)
    → after_line (reading_after_lines r first) l ≡ reading_after_lines r first
    → suc k ≡ later_line (length first) (suc j)
    → (reading_after_lines r (take (suc j) (first ++ more))).body
    ≡ (reading_after_lines r (take j (first ++ more))).body
    → (reading_after_lines r (take k (first ++ l ∷ more))).body
    ≡ (reading_after_lines r (take j (first ++ more))).body
body_still r first l more j k keeps number same = elim (cases_lt (suc j) (length first)) [
  | inl less ↦
      (let here : k ≡ j = omega (arith, number, later_before (length first) (suc j) less) in
      at k j here ∙ ap (λ (x : Reading). x.body) (reading_alike r first (l ∷ more) more j (omega (arith, less))))
  | inr g ↦
      (let here : k ≡ suc j = omega (arith, number, later_from (length first) (suc j) g) in
      let later : (reading_after_lines r (take (suc j) (first ++ l ∷ more))).body
      ≡ (reading_after_lines r (take j (first ++ more))).body = elim (cases_lt j (length first)) [
        | inl less ↦
            ap (λ (x : Reading). x.body) (reading_alike r first (l ∷ more) more (suc j) (omega (arith, less)))
            ∙ same
        | inr past ↦ ap (λ (x : Reading). x.body) (reading_later r first l more j keeps past)
      ] in
      at k (suc j) here ∙ later)
]
  where
    at : (m i : ℕ) → m ≡ i
        → (reading_after_lines r (take m (first ++ l ∷ more))).body
        ≡ (reading_after_lines r (take i (first ++ l ∷ more))).body
    at m i e = ap (λ (m : ℕ). (reading_after_lines r (take m (first ++ l ∷ more))).body) e
