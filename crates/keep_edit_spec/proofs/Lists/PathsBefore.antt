-- The path that was before an element was taken out goes where the path is now: up and then down is the same.
--
-- Theorems: `raised_goes`, `before_element`: so it is at the path of an element; `element_before`, `stays_below`,
-- `apart_before`: which path it was, at another element or below it, anywhere in the array, and elsewhere;
-- `unchanged_before`: elsewhere than at the changed path and below it; `no_number_before`, `before_table`: by the
-- remove of a table no path changes.
use Rattle.std.proofs.Common.{◌≡◌, ℕ, ◌+◌, Bool, true, false, cond, List, [], ◌∷◌, ◌++◌, refl, sym, ap, ap₂, ◌∙◌}
use Rattle.std.proofs.Common.{Option, Some, None, inl, inr}
use Rattle.std.specs.Prelude.{nat_lt}
use Rattle.std.proofs.lemmas.Bool.{cases_lt, lt-ltb, le-ltb}
use Rattle.keep_path.specs.Path.{Part, key, index, last_part, strip, without_last}
use Rattle.keep_edit_spec.specs.ElementRuns.{changed_path}
use Rattle.keep_edit_spec.specs.RemovedHeaders.{path_before, raised}
use Rattle.keep_edit_spec.proofs.Common.Cuts.{last_part-snoc, without_last-snoc}
use Rattle.keep_edit_spec.proofs.Common.LineLaws.{EndsInKey}
use Rattle.keep_edit_spec.proofs.Common.Runs.{strip-append, strip-sound}
use Rattle.keep_edit_spec.proofs.Remove.RemoveInValue.{down_above, down_below}
use Rattle.keep_edit_spec.proofs.Remove.Shift.{element_at, shifted, shifted_disjoint, shifted_under}
use Rattle.keep_edit_spec.proofs.Lists.ChangedPath.{changed_by}

-- what `raised` makes of the rest of a path
abbrev pub raised_by : List Part → ℕ → List Part → Option (List Part) → List Part
raised_by array n path o = elim o [
  | None ↦ path
  | Some more ↦ elim more [
    | [] ↦ path
    | part ∷ rest ↦ elim part [
      | key text ↦ path
      | index m ↦ cond (nat_lt m n) path (array ++ index (m + 1) ∷ rest)
    ]
  ]
]

module _ (array : List Part) (n : ℕ) (q : List Part) where
  stays : (x : List Part) → q ≡ array ++ x → shifted array n (array ++ x) ≡ array ++ x → shifted array n q ≡ q
  stays x w e = ap (shifted array n) w ∙ e ∙ sym w

  by_number : (m : ℕ) (r : List Part) → q ≡ array ++ index m ∷ r → (b : Bool) → nat_lt m n ≡ b
      → shifted array n (cond b q (array ++ index (m + 1) ∷ r)) ≡ q
  by_number m r w true k = elim (cases_lt m n) [
    | inl l ↦
        stays (index m ∷ r) w
        (shifted_under array n (index m ∷ r) ∙ ap (λ (z : List Part). array ++ z) (down_below n m r l))
    | inr g ↦ absurd (let z : nat_lt m n ≡ false = le-ltb m n g in cc)
  ]
  by_number m r w false k = elim (cases_lt m n) [
    | inl l ↦ absurd (let z : nat_lt m n ≡ true = lt-ltb m n l in cc)
    | inr g ↦
        shifted_under array n (index (m + 1) ∷ r) ∙ ap (λ (z : List Part). array ++ z) (down_above n m r g) ∙ sym w
  ]

  by : (o : Option (List Part)) → strip array q ≡ o → shifted array n (raised_by array n q o) ≡ q
  by None u = shifted_disjoint array n q u
  by (Some []) u = stays [] (strip-sound array q [] u) (shifted_under array n [])
  by (Some (key text ∷ r)) u =
      stays (key text ∷ r) (strip-sound array q (key text ∷ r) u) (shifted_under array n (key text ∷ r))
  by (Some (index m ∷ r)) u = by_number m r (strip-sound array q (index m ∷ r) u) (nat_lt m n) refl

  pub raised_goes : shifted array n (raised array n q) ≡ q
  raised_goes = by (strip array q) refl

-- ---- paths before the remove of an element

abbrev pub before_by : Option Part → List Part → List Part → List Part
before_by o array q = elim o [ None ↦ q | Some part ↦ elim part [ key text ↦ q | index n ↦ raised array n q ] ]

before_is : (array : List Part) (n : ℕ) (q : List Part) → path_before (element_at array n) q ≡ raised array n q
before_is array n q =
    ap₂ (λ (o : Option Part) (a : List Part). before_by o a q) (last_part-snoc array (index n))
    (without_last-snoc array (index n))

pub before_element : (array : List Part) (n : ℕ) (q : List Part)
    → shifted array n (path_before (element_at array n) q) ≡ q
before_element array n q = ap (shifted array n) (before_is array n q) ∙ raised_goes array n q

-- of another element of the array, or below it
pub element_before : (array : List Part) (n m : ℕ) (rest : List Part)
    → path_before (array ++ index n ∷ []) (array ++ index m ∷ rest)
    ≡ array ++ index (cond (nat_lt m n) m (m + 1)) ∷ rest
element_before array n m rest =
    before_is array n (array ++ index m ∷ rest)
    ∙ ap (raised_by array n (array ++ index m ∷ rest)) (strip-append array (index m ∷ rest)) ∙ by (nat_lt m n)
  where
    by : (b : Bool)
        → cond b (array ++ index m ∷ rest) (array ++ index (m + 1) ∷ rest)
        ≡ array ++ index (cond b m (m + 1)) ∷ rest
    by true = refl
    by false = refl

-- what is in the array stays there
pub stays_below : (array : List Part) (n : ℕ) (more : List Part)
    → (rest : List Part) × (path_before (array ++ index n ∷ []) (array ++ more) ≡ array ++ rest)
stays_below array n more = by more (before_is array n (array ++ more)
    ∙ ap (raised_by array n (array ++ more)) (strip-append array more))
  where
    by : (more : List Part) → path_before (array ++ index n ∷ []) (array ++ more)
        ≡ raised_by array n (array ++ more) (Some more)
        → (rest : List Part) × (path_before (array ++ index n ∷ []) (array ++ more) ≡ array ++ rest)
    by [] is = ([], is)
    by (key text ∷ rest) is = (key text ∷ rest, is)
    by (index m ∷ rest) is = (index (cond (nat_lt m n) m (m + 1)) ∷ rest, element_before array n m rest)

-- of what is not in the array
pub apart_before : (array : List Part) (n : ℕ) (q : List Part) → strip array q ≡ None
    → path_before (array ++ index n ∷ []) q ≡ q
apart_before array n q apart = before_is array n q ∙ ap (raised_by array n q) apart

-- of what is elsewhere than at the changed path and below it
pub unchanged_before : (path q : List Part) → strip (changed_path path) q ≡ None → path_before path q ≡ q
unchanged_before path q = by (last_part path)
  where
    by : (o : Option Part) → strip (changed_by path o) q ≡ None → before_by o (without_last path) q ≡ q
    by None apart = refl
    by (Some (key text)) apart = refl
    by (Some (index n)) apart = ap (raised_by (without_last path) n q) apart

-- ---- before any other

pub no_number_before : (path q : List Part) → ((n : ℕ) → last_part path ≡ Some (index n) → ⊥)
    → path_before path q ≡ q
no_number_before path q none = by (last_part path) refl
  where
    by : (o : Option Part) → last_part path ≡ o → before_by o (without_last path) q ≡ q
    by None e = refl
    by (Some (key text)) e = refl
    by (Some (index n)) e = absurd (none n e)

pub before_table : (path q : List Part) → EndsInKey path → path_before path q ≡ q
before_table path q ends =
    no_number_before path q
    (λ n e. let same : Some (key ends.1) ≡ Some (index n) =
    sym (ap last_part ends.2 ∙ last_part-snoc ends.0 (key ends.1)) ∙ e in absurd cc)
