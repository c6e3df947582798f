-- A list of edits with one more: those that pass a test come before it, as they come behind its line, and then the
-- others.
--
-- What holds of each of the edits and of that one holds of each of the list, and what holds of one of them holds of one
-- of it; and there are as many as of those and one more. A property of lists is given by what it says of the empty list
-- and of one edit more.
--
-- Theorems: `lines_ahead`, `seen_ahead`, `made_all_ahead`: what holds of all lines, of all edits as others see them,
-- and of all edits with their changes; `line_ahead`, `its_line_ahead`: of one line, of the others or its own;
-- `set_ahead`, `rename_ahead`: one edit sets a value or renames a key; `lines_counted_ahead`, `seen_counted_ahead`: how
-- many there are.
use Rattle.std.proofs.Common.{◌≡◌, ℕ, zero, suc, ◌+◌, Bool, true, false, not, cond, List, [], ◌∷◌, ◌++◌, All, refl}
use Rattle.std.proofs.Common.{arith, inl, inr}
use Rattle.std.specs.Prelude.{◌⊎◌, Any, filter}
use Rattle.std.specs.List.{count_by}
use Rattle.std.proofs.lemmas.List.Elements.{All-cons, All-head, All-nil, All-tail}
use Rattle.std.proofs.lemmas.List.Sums.{sum_by-cons}
use Rattle.keep_syntax.specs.Tree.{Document, Value}
use Rattle.keep_path.specs.Path.{Part}
use Rattle.keep_edit_spec.specs.Edits as law
use Rattle.keep_edit_spec.specs.InsertKinds.{Added, added_as}
use Rattle.keep_edit_spec.specs.RenameLists.{IsRenameIn, IsRenameOf}
use Rattle.keep_edit_spec.specs.RunLists.{IsSetIn, MadeEdit, lines_of, seen_of}
use Rattle.keep_edit_spec.specs.Runs.{seen, with_line}

-- ---- lists by a test

module _ (test : MadeEdit → Bool) where
  abbrev passing : List MadeEdit → List MadeEdit
  passing ms = filter test ms

  abbrev others : List MadeEdit → List MadeEdit
  others ms = filter (λ m. not (test m)) ms

  -- those that pass the test, one more, and the others
  abbrev pub ahead : List MadeEdit → MadeEdit → List MadeEdit
  ahead ms m = passing ms ++ m ∷ others ms

  -- ---- what holds of all

  module _ (P : MadeEdit → Type 0) (Q : List MadeEdit → Type 0) (none : Q [])
      (of_more : (m : MadeEdit) (ms : List MadeEdit) → Q (m ∷ ms) → P m × Q ms)
      (more : (m : MadeEdit) (ms : List MadeEdit) → P m → Q ms → Q (m ∷ ms)) where
    of_kept : (keep : MadeEdit → Bool) (ms : List MadeEdit) → Q ms → Q (filter keep ms)
    of_kept keep [] h = none
    of_kept keep (m ∷ ms) h = (let (its, rest) = of_more m ms h in by (keep m) refl its (of_kept keep ms rest))
      where
        by : (b : Bool) → keep m ≡ b → P m → Q (filter keep ms) → Q (filter keep (m ∷ ms))
        by true is its rest = rw (is) (more m (filter keep ms) its rest)
        by false is its rest = rw (is) rest

    of_both : (xs ys : List MadeEdit) → Q xs → Q ys → Q (xs ++ ys)
    of_both [] ys h others_too = others_too
    of_both (x ∷ xs) ys h others_too =
        let (its, rest) = of_more x xs h in more x (xs ++ ys) its (of_both xs ys rest others_too)

    all_ahead : (m : MadeEdit) (ms : List MadeEdit) → P m → Q ms → Q (ahead ms m)
    all_ahead m ms its all =
        of_both (passing ms) (m ∷ others ms) (of_kept test ms all)
        (more m (others ms) its (of_kept (λ x. not (test x)) ms all))

  -- ---- what holds of one

  module _ (P : MadeEdit → Type 0) (Q : List MadeEdit → Type 0) (none : Q [] → ⊥)
      (of_more : (m : MadeEdit) (ms : List MadeEdit) → Q (m ∷ ms) → P m ⊎ Q ms)
      (first : (m : MadeEdit) (ms : List MadeEdit) → P m → Q (m ∷ ms))
      (later : (m : MadeEdit) (ms : List MadeEdit) → Q ms → Q (m ∷ ms)) where
    of_parts : (ms : List MadeEdit) → Q ms → Q (passing ms) ⊎ Q (others ms)
    of_parts [] h = absurd (none h)
    of_parts (m ∷ ms) h = by (test m) refl (of_more m ms h) (of_parts ms)
      where
        by : (b : Bool) → test m ≡ b → P m ⊎ Q ms → (Q ms → Q (passing ms) ⊎ Q (others ms))
            → Q (passing (m ∷ ms)) ⊎ Q (others (m ∷ ms))
        by true is (inl its) parts = rw (is) (inl (first m (passing ms) its))
        by true is (inr rest) parts = rw (is) (elim (parts rest) [
          | inl some ↦ inl (later m (passing ms) some)
          | inr some ↦ inr some
        ])
        by false is (inl its) parts = rw (is) (inr (first m (others ms) its))
        by false is (inr rest) parts = rw (is) (elim (parts rest) [
          | inl some ↦ inl some
          | inr some ↦ inr (later m (others ms) some)
        ])

    in_first : (xs ys : List MadeEdit) → Q xs → Q (xs ++ ys)
    in_first [] ys h = absurd (none h)
    in_first (x ∷ xs) ys h = elim (of_more x xs h) [
      | inl its ↦ first x (xs ++ ys) its
      | inr rest ↦ later x (xs ++ ys) (in_first xs ys rest)
    ]

    in_second : (xs ys : List MadeEdit) → Q ys → Q (xs ++ ys)
    in_second [] ys h = h
    in_second (x ∷ xs) ys h = later x (xs ++ ys) (in_second xs ys h)

    some_ahead : (m : MadeEdit) (ms : List MadeEdit) → Q ms → Q (ahead ms m)
    some_ahead m ms h = elim (of_parts ms h) [
      | inl some ↦ in_first (passing ms) (m ∷ others ms) some
      | inr some ↦ in_second (passing ms) (m ∷ others ms) (later m (others ms) some)
    ]

    one_ahead : (m : MadeEdit) (ms : List MadeEdit) → P m → Q (ahead ms m)
    one_ahead m ms its = in_second (passing ms) (m ∷ others ms) (first m (others ms) its)

  -- ---- how many there are

  module _ (one : MadeEdit → ℕ) (count : List MadeEdit → ℕ) (none : count [] ≡ 0)
      (more : (m : MadeEdit) (ms : List MadeEdit) → count (m ∷ ms) ≡ one m + count ms) where
    count_parts : (ms : List MadeEdit) → count (passing ms) + count (others ms) ≡ count ms
    count_parts [] = omega (arith, none)
    count_parts (m ∷ ms) = by (test m) refl (count_parts ms)
      where
        by : (b : Bool) → test m ≡ b → count (passing ms) + count (others ms) ≡ count ms
            → count (passing (m ∷ ms)) + count (others (m ∷ ms)) ≡ count (m ∷ ms)
        by true is parts = rw (is) (omega (arith, more m (passing ms), more m ms, parts))
        by false is parts = rw (is) (omega (arith, more m (others ms), more m ms, parts))

    count_both : (xs ys : List MadeEdit) → count (xs ++ ys) ≡ count xs + count ys
    count_both [] ys = omega (arith, none)
    count_both (x ∷ xs) ys = omega (arith, more x (xs ++ ys), more x xs, count_both xs ys)

    count_ahead : (m : MadeEdit) (ms : List MadeEdit) → count (ahead ms m) ≡ one m + count ms
    count_ahead m ms =
        omega (arith, count_both (passing ms) (m ∷ others ms), more m (others ms), count_parts ms)

-- ---- one line more, or none

-- one more is counted by itself
one_more : {A : Type 0} (p : A → Bool) (x : A) (xs : List A)
    → count_by p (x ∷ xs) ≡ count_by p (x ∷ []) + count_by p xs
one_more p x xs =
    let its : count_by p (x ∷ []) ≡ cond (p x) 1 0 + count_by p [] = sum_by-cons (λ y. cond (p y) 1 0) x [] in
    let all : count_by p (x ∷ xs) ≡ cond (p x) 1 0 + count_by p xs = sum_by-cons (λ y. cond (p y) 1 0) x xs in
    let none : count_by p [] ≡ 0 = refl in
    omega (arith, its, all, none)

-- the line that an edit adds, if it adds one
abbrev own_lines : Document → MadeEdit → List Added
own_lines s m = with_line s m.edit m.change []

module _ (s : Document) where
  -- what holds of all lines holds of its own, and of the others
  of_line_more : (P : Added → Type 0) (m : MadeEdit) (ms : List MadeEdit) → All P (lines_of s (m ∷ ms))
      → All P (own_lines s m) × All P (lines_of s ms)
  of_line_more P m ms = by m.edit
    where
      by : (e : law.Edit) → All P (with_line s e m.change (lines_of s ms))
          → All P (with_line s e m.change []) × All P (lines_of s ms)
      by (law.insert path value) h =
          let its : Added = added_as s path m.change in (
            All-cons P its [] (All-head P its (lines_of s ms) h) (All-nil P),
            All-tail P its (lines_of s ms) h,
          )
      by (law.set path value) h = (All-nil P, h)
      by (law.rename path name) h = (All-nil P, h)
      by (law.remove path) h = (All-nil P, h)
      by (law.append_table keys) h = (All-nil P, h)
      by (law.append_element keys) h = (All-nil P, h)

  line_more : (P : Added → Type 0) (m : MadeEdit) (ms : List MadeEdit) → All P (own_lines s m)
      → All P (lines_of s ms) → All P (lines_of s (m ∷ ms))
  line_more P m ms = by m.edit
    where
      by : (e : law.Edit) → All P (with_line s e m.change []) → All P (lines_of s ms)
          → All P (with_line s e m.change (lines_of s ms))
      by (law.insert path value) its rest =
          let one : Added = added_as s path m.change in
          All-cons P one (lines_of s ms) (All-head P one [] its) rest
      by (law.set path value) its rest = rest
      by (law.rename path name) its rest = rest
      by (law.remove path) its rest = rest
      by (law.append_table keys) its rest = rest
      by (law.append_element keys) its rest = rest

  -- a line is its own, or of the others
  of_any_more : (P : Added → Type 0) (m : MadeEdit) (ms : List MadeEdit) → Any P (lines_of s (m ∷ ms))
      → Any P (own_lines s m) ⊎ Any P (lines_of s ms)
  of_any_more P m ms = by m.edit
    where
      by : (e : law.Edit) → Any P (with_line s e m.change (lines_of s ms))
          → Any P (with_line s e m.change []) ⊎ Any P (lines_of s ms)
      by (law.insert path value) (zero, l, less, is, holds) = inl (zero, l, omega arith, is, holds)
      by (law.insert path value) (suc k, l, less, is, holds) = inr (k, l, omega (arith, less), is, holds)
      by (law.set path value) h = inr h
      by (law.rename path name) h = inr h
      by (law.remove path) h = inr h
      by (law.append_table keys) h = inr h
      by (law.append_element keys) h = inr h

  any_own : (P : Added → Type 0) (m : MadeEdit) (ms : List MadeEdit) → Any P (own_lines s m)
      → Any P (lines_of s (m ∷ ms))
  any_own P m ms = by m.edit
    where
      never : {A : Type 0} → Any P [] → A
      never (k, l, less, is, holds) = absurd (omega (arith, less))

      by : (e : law.Edit) → Any P (with_line s e m.change []) → Any P (with_line s e m.change (lines_of s ms))
      by (law.insert path value) (zero, l, less, is, holds) = (zero, l, omega arith, is, holds)
      by (law.insert path value) (suc k, l, less, is, holds) = absurd (omega (arith, less))
      by (law.set path value) h = never h
      by (law.rename path name) h = never h
      by (law.remove path) h = never h
      by (law.append_table keys) h = never h
      by (law.append_element keys) h = never h

  any_more : (P : Added → Type 0) (m : MadeEdit) (ms : List MadeEdit) → Any P (lines_of s ms)
      → Any P (lines_of s (m ∷ ms))
  any_more P m ms = by m.edit
    where
      by : (e : law.Edit) → Any P (lines_of s ms) → Any P (with_line s e m.change (lines_of s ms))
      by (law.insert path value) (k, l, less, is, holds) = (suc k, l, omega (arith, less), is, holds)
      by (law.set path value) h = h
      by (law.rename path name) h = h
      by (law.remove path) h = h
      by (law.append_table keys) h = h
      by (law.append_element keys) h = h

  count_more : (p : Added → Bool) (m : MadeEdit) (ms : List MadeEdit)
      → count_by p (lines_of s (m ∷ ms)) ≡ count_by p (own_lines s m) + count_by p (lines_of s ms)
  count_more p m ms = by m.edit
    where
      by : (e : law.Edit) → count_by p (with_line s e m.change (lines_of s ms))
          ≡ count_by p (with_line s e m.change []) + count_by p (lines_of s ms)
      by (law.insert path value) = one_more p (added_as s path m.change) (lines_of s ms)
      by (law.set path value) = omega arith
      by (law.rename path name) = omega arith
      by (law.remove path) = omega arith
      by (law.append_table keys) = omega arith
      by (law.append_element keys) = omega arith

-- ---- so it is of lines and edits

module _ (s : Document) (test : MadeEdit → Bool) (m : MadeEdit) (ms : List MadeEdit) where
  pub lines_ahead : (P : Added → Type 0) → All P (own_lines s m) → All P (lines_of s ms)
      → All P (lines_of s (ahead test ms m))
  lines_ahead P =
      all_ahead test (λ x. All P (own_lines s x)) (λ l. All P (lines_of s l)) (All-nil P) (of_line_more s P)
      (line_more s P) m ms

  pub seen_ahead : (P : law.Edit → Type 0) → P (seen s m.edit) → All P (seen_of s ms)
      → All P (seen_of s (ahead test ms m))
  seen_ahead P =
      all_ahead test (λ x. P (seen s x.edit)) (λ l. All P (seen_of s l)) (All-nil P)
      (λ x l h. (All-head P (seen s x.edit) (seen_of s l) h, All-tail P (seen s x.edit) (seen_of s l) h))
      (λ x l its rest. All-cons P (seen s x.edit) (seen_of s l) its rest) m ms

  pub made_all_ahead : (P : MadeEdit → Type 0) → P m → All P ms → All P (ahead test ms m)
  made_all_ahead P =
      all_ahead test P (λ l. All P l) (All-nil P) (λ x l h. (All-head P x l h, All-tail P x l h))
      (λ x l its rest. All-cons P x l its rest) m ms

  pub line_ahead : (P : Added → Type 0) → Any P (lines_of s ms) → Any P (lines_of s (ahead test ms m))
  line_ahead P =
      some_ahead test (λ x. Any P (own_lines s x)) (λ l. Any P (lines_of s l)) none (of_any_more s P) (any_own s P)
      (any_more s P) m ms
    where
      none : Any P [] → ⊥
      none (k, l, less, is, holds) = absurd (omega (arith, less))

  pub its_line_ahead : (P : Added → Type 0) → Any P (own_lines s m) → Any P (lines_of s (ahead test ms m))
  its_line_ahead P =
      one_ahead test (λ x. Any P (own_lines s x)) (λ l. Any P (lines_of s l)) none (of_any_more s P) (any_own s P)
      (any_more s P) m ms
    where
      none : Any P [] → ⊥
      none (k, l, less, is, holds) = absurd (omega (arith, less))

  pub set_ahead : (path : List Part) → IsSetIn path ms → IsSetIn path (ahead test ms m)
  set_ahead path =
      some_ahead test (λ x. (value : Value) × (x.edit ≡ law.set path value)) (IsSetIn path) (λ h. h) (λ x l h. h)
      (λ x l its. inl its) (λ x l rest. inr rest) m ms

  pub rename_ahead : (path : List Part) → IsRenameIn path ms → IsRenameIn path (ahead test ms m)
  rename_ahead path =
      some_ahead test (λ x. IsRenameOf path x.edit) (IsRenameIn path) (λ h. h) (λ x l h. h)
      (λ x l its. inl its) (λ x l rest. inr rest) m ms

  pub lines_counted_ahead : (p : Added → Bool)
      → count_by p (lines_of s (ahead test ms m)) ≡ count_by p (own_lines s m) + count_by p (lines_of s ms)
  lines_counted_ahead p =
      count_ahead test (λ x. count_by p (own_lines s x)) (λ l. count_by p (lines_of s l)) refl (count_more s p) m ms

  pub seen_counted_ahead : (p : law.Edit → Bool)
      → count_by p (seen_of s (ahead test ms m)) ≡ count_by p (seen s m.edit ∷ []) + count_by p (seen_of s ms)
  seen_counted_ahead p =
      count_ahead test (λ x. count_by p (seen s x.edit ∷ [])) (λ l. count_by p (seen_of s l)) refl
      (λ x l. one_more p (seen s x.edit) (seen_of s l)) m ms
