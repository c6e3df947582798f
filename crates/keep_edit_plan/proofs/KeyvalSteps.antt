-- Step by step: the indexes of a path, and the last keyval of braces.
--
-- Theorems: `index_here`: there is an index from a step on exactly if the step is one or a later one is;
-- `no_index_left`: past the last step there is none; `keyval_own`: a keyval of the braces themselves is the last so
-- far.
use Rattle.std.proofs.Common.{◌≡◌, ℕ, zero, suc, ◌≤◌, ◌<◌, ◌==◌, Bool, true, false, ◌||◌, List, [], ◌∷◌, length, drop}
use Rattle.std.proofs.Common.{slice_get, refl, sym, ap, ◌∙◌, arith, Option, Some, None}
use Rattle.std.specs.Prelude.{nat_lt, if◌then◌else◌}
use Rattle.std.specs.List.{list_any}
use Rattle.std.specs.Option.{option_and_then}
use Rattle.std.proofs.lemmas.Bool.{eq-eqb, ne_eqb, lt-ltb, le-ltb}
use Rattle.keep_types.specs.declared.syntax.ValueInfo.{ValueInfo}
use Rattle.keep_path.specs.Path.{Part}
use Rattle.keep_edit_spec.specs.Insertion.{last_keyval}
use Rattle.keep_edit_spec.specs.Look.{is_index}
use Rattle.keep_edit_plan.specs.Inserting.{last_keyval_among}

from_here : {A : Type 0} (xs : List A) (n : ℕ) (x : A) → slice_get xs n ≡ Some x → drop n xs ≡ x ∷ drop (suc n) xs
from_here [] n x e = absurd cc
from_here {A = A} (y ∷ ys) zero x e = let same : y ≡ x = cc in ap (λ (z : A). z ∷ ys) same
from_here (y ∷ ys) (suc n) x e = from_here ys n x e

past_end : {A : Type 0} (xs : List A) (n : ℕ) → length xs ≤ n → drop n xs ≡ []
past_end [] zero h = refl
past_end [] (suc n) h = refl
past_end (x ∷ xs) zero h = absurd (omega (arith, h))
past_end (x ∷ xs) (suc n) h = past_end xs n (omega (arith, h))

-- ---- the indexes of a path

pub index_here : (path : List Part) (n m : ℕ) (p : Part) → slice_get path n ≡ Some p → m ≡ suc n
    → list_any is_index (drop n path) ≡ (is_index p || list_any is_index (drop m path))
index_here path n m p is next =
    ap (list_any is_index) (from_here path n p is)
    ∙ ap (λ (k : ℕ). is_index p || list_any is_index (drop k path)) (sym next)

pub no_index_left : (path : List Part) (n : ℕ) → length path ≤ n → list_any is_index (drop n path) ≡ false
no_index_left path n h = ap (list_any is_index) (past_end path n h)

-- ---- the last keyval

abbrev pub or_that : Option ℕ → Option ℕ → Option ℕ
or_that o last = elim o [ Some m ↦ Some m | None ↦ last ]

-- of the values from one on, or else the last so far
abbrev pub last_or : Option ℕ → ℕ → ℕ → List ValueInfo → Option ℕ
last_or last n depth values = or_that (last_keyval n depth (drop n values)) last

keyval_by : (n depth : ℕ) (v : ValueInfo) (vs : List ValueInfo) (b : Bool) → nat_lt depth v.depth ≡ b
    → last_keyval n depth (v ∷ vs)
    ≡ elim b [
      | false ↦ None
      | true ↦
          or_that (last_keyval (suc n) depth vs) (if v.depth == suc depth then Some n else None)
    ]
keyval_by n depth v vs b e =
    ap (λ (b : Bool).
    elim b [
      | false ↦ None
      | true ↦
          or_that (last_keyval (suc n) depth vs) (if v.depth == suc depth then Some n else None)
    ]) e

pub keyval_start : (values : List ValueInfo) (braces n : ℕ) (v : ValueInfo) → slice_get values braces ≡ Some v
    → n ≡ suc braces → last_keyval_among braces values ≡ last_or None n v.depth values
keyval_start values braces n v is next =
    ap (option_and_then (λ (v : ValueInfo). last_keyval (suc braces) v.depth (drop (suc braces) values))) is
    ∙ by (last_keyval (suc braces) v.depth (drop (suc braces) values))
    ∙ ap (λ (k : ℕ). last_or None k v.depth values) (sym next)
  where
    by : (o : Option ℕ) → o ≡ or_that o None
    by None = refl
    by (Some m) = refl

pub keyval_stop : (values : List ValueInfo) (n depth : ℕ) (last : Option ℕ) (v : ValueInfo)
    → slice_get values n ≡ Some v → v.depth ≤ depth → last_or last n depth values ≡ last
keyval_stop values n depth last v is low =
    ap (λ (l : List ValueInfo). or_that (last_keyval n depth l) last) (from_here values n v is)
    ∙ ap (λ (o : Option ℕ). or_that o last) (keyval_by n depth v (drop (suc n) values) false (le-ltb depth v.depth low))

pub keyval_end : (values : List ValueInfo) (n depth : ℕ) (last : Option ℕ) → length values ≤ n
    → last_or last n depth values ≡ last
keyval_end values n depth last h =
    ap (λ (l : List ValueInfo). or_that (last_keyval n depth l) last) (past_end values n h)

next_by : (o : Option ℕ) (b : Bool) (n : ℕ) (last new : Option ℕ) → new ≡ (if b then Some n else last)
    → or_that (or_that o (if b then Some n else None)) last ≡ or_that o new
next_by (Some m) b n last new e = refl
next_by None true n last new e = sym e
next_by None false n last new e = sym e

keyval_on : (values : List ValueInfo) (n m depth : ℕ) (last new : Option ℕ) (v : ValueInfo)
    → slice_get values n ≡ Some v → depth < v.depth → m ≡ suc n → new ≡ (if v.depth == suc depth then Some n else last)
    → last_or last n depth values ≡ last_or new m depth values
keyval_on values n m depth last new v is deep next e =
    ap (λ (l : List ValueInfo). or_that (last_keyval n depth l) last) (from_here values n v is)
    ∙ ap (λ (o : Option ℕ). or_that o last) (keyval_by n depth v (drop (suc n) values) true (lt-ltb depth v.depth deep))
    ∙ next_by (last_keyval (suc n) depth (drop (suc n) values)) (v.depth == suc depth) n last new e
    ∙ ap (λ (k : ℕ). last_or new k depth values) (sym next)

pub keyval_own : (values : List ValueInfo) (n m depth : ℕ) (last : Option ℕ) (v : ValueInfo)
    → slice_get values n ≡ Some v → depth < v.depth → m ≡ suc n → v.depth ≡ suc depth
    → last_or last n depth values ≡ last_or (Some n) m depth values
keyval_own values n m depth last v is deep next own =
    keyval_on values n m depth last (Some n) v is deep next
    (sym (ap (λ (b : Bool). if b then Some n else last) (eq-eqb v.depth (suc depth) own)))

pub keyval_inner : (values : List ValueInfo) (n m depth : ℕ) (last : Option ℕ) (v : ValueInfo)
    → slice_get values n ≡ Some v → depth < v.depth → m ≡ suc n → (v.depth ≡ suc depth → ⊥)
    → last_or last n depth values ≡ last_or last m depth values
keyval_inner values n m depth last v is deep next inner =
    keyval_on values n m depth last last v is deep next
    (sym (ap (λ (b : Bool). if b then Some n else last) (ne_eqb v.depth (suc depth) inner)))
