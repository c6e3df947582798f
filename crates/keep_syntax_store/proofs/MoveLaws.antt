-- A range of a list grows by the next element, and the statements that begin before a place are counted one by one.
--
-- Theorems: `range_grown`: a range at the end of a list grows by the next element; `moved_next`: a moved range there by
-- the next element, moved; `statements_stop`: no more begin before a place than come before one that does not;
-- `statements_more`: if the lines ascend, one that begins before the place counts, with all that come before it.
use Rattle.std.proofs.Common.{◌≡◌, ℕ, zero, suc, ◌+◌, ◌-◌, ◌<◌, ◌≤◌, Bool, true, false, List, [], ◌∷◌, ◌++◌, length}
use Rattle.std.proofs.Common.{map, take, drop, refl, sym, ap, ◌∙◌, subst, arith, append_assoc, Some, None, slice_get}
use Rattle.std.proofs.Common.{le-ltb, lt-ltb}
use Rattle.std.specs.Prelude.{slice_range, get_or, ltb, if◌then◌else◌}
use Rattle.std.proofs.lemmas.List.{map-append, take_more, length-drop}
use Rattle.std.proofs.lemmas.Option.{get_or_from_slice_get, slice_get_within}
use Rattle.keep_types.specs.declared.syntax.Statement.{Statement}
use Rattle.keep_syntax_store.specs.Rereading.{LinesAscend, statements_before, first_key, value_or, first_value}
use Rattle.keep_syntax_store.proofs.TestLaws.{if_true, if_false}

get_drop : {A : Type 0} (xs : List A) (n i : ℕ) (d : A) → get_or (drop n xs) i d ≡ get_or xs (n + i) d
get_drop xs zero i d = ap (λ k. get_or xs k d) (omega arith)
get_drop [] (suc n) i d = refl
get_drop (x ∷ xs) (suc n) i d =
    get_drop xs n i d ∙ ap (λ k. get_or (x ∷ xs) k d) (let e : suc (n + i) ≡ suc n + i = omega arith in e)

drop_at : {A : Type 0} (xs : List A) (n : ℕ) (d : A) → n < length xs → drop n xs ≡ get_or xs n d ∷ drop (n + 1) xs
drop_at (x ∷ xs) zero d h = refl
drop_at (x ∷ xs) (suc n) d h =
    drop_at xs n d (omega (arith, h))
    ∙ ap (λ k. get_or xs n d ∷ drop k (x ∷ xs)) (let e : suc (n + 1) ≡ suc n + 1 = omega arith in e)
drop_at [] n d h = absurd (omega (arith, h))

pub range_more : {A : Type 0} (xs : List A) (from n : ℕ) (d : A) → from ≤ n → n < length xs
    → slice_range xs from (n + 1) ≡ slice_range xs from n ++ get_or xs n d ∷ []
range_more xs from n d order within =
    let e : n + 1 - from ≡ n - from + 1 = omega (arith, order) in
    let i : from + (n - from) ≡ n = omega (arith, order) in
    ap (λ k. take k (drop from xs)) e
    ∙ take_more (drop from xs) (n - from) d (omega (arith, order, within, length-drop from xs))
    ∙ ap (λ y. take (n - from) (drop from xs) ++ y ∷ []) (get_drop xs from (n - from) d ∙ ap (λ k. get_or xs k d) i)

-- ---- by the element of a number

pub drop_next : {A : Type 0} (xs : List A) (n : ℕ) (x : A) → slice_get xs n ≡ Some x → drop n xs ≡ x ∷ drop (n + 1) xs
drop_next xs n x e =
    drop_at xs n x (slice_get_within xs n x e) ∙ ap (λ y. y ∷ drop (n + 1) xs) (get_or_from_slice_get xs n x x e)

pub range_next : {A : Type 0} (xs : List A) (from n : ℕ) (x : A) → from ≤ n → slice_get xs n ≡ Some x
    → slice_range xs from (n + 1) ≡ slice_range xs from n ++ x ∷ []
range_next xs from n x order e =
    range_more xs from n x order (slice_get_within xs n x e)
    ∙ ap (λ y. slice_range xs from n ++ y ∷ []) (get_or_from_slice_get xs n x x e)

-- the range of one element
pub range_one : {A : Type 0} (xs : List A) (n : ℕ) (x : A) → slice_get xs n ≡ Some x
    → slice_range xs n (n + 1) ≡ x ∷ []
range_one xs n x e =
    range_next xs n n x (omega arith) e
    ∙ ap (λ k. take k (drop n xs) ++ x ∷ []) (let z : n - n ≡ 0 = omega arith in z)

element : {A : Type 0} (xs : List A) (n : ℕ) → n < length xs → (x : A) × (slice_get xs n ≡ Some x)
element [] n h = absurd (omega (arith, h))
element (x ∷ xs) zero h = (x, refl)
element (x ∷ xs) (suc n) h = element xs n (omega (arith, h))

pub range_grown : {A : Type 0} (out xs : List A) (from n : ℕ) → from ≤ n → n < length xs
    → (out ++ slice_range xs from n) ++ slice_range xs n (n + 1) ≡ out ++ slice_range xs from (n + 1)
range_grown out xs from n order within =
    let x = element xs n within in
    ap (λ ys. (out ++ slice_range xs from n) ++ ys) (range_one xs n x.0 x.1)
    ∙ append_assoc out (slice_range xs from n) (x.0 ∷ [])
    ∙ ap (λ ys. out ++ ys) (sym (range_next xs from n x.0 order x.1))

pub moved_next : {A B : Type 0} (f : A → B) (out : List B) (xs : List A) (from n : ℕ) (x : A) → from ≤ n
    → slice_get xs n ≡ Some x
    → (out ++ map f (slice_range xs from n)) ++ f x ∷ [] ≡ out ++ map f (slice_range xs from (n + 1))
moved_next f out xs from n x order e =
    append_assoc out (map f (slice_range xs from n)) (f x ∷ [])
    ∙ ap (λ ys. out ++ ys) (sym (map-append f (slice_range xs from n) (x ∷ []))
    ∙ sym (ap (map f) (range_next xs from n x order e)))

-- ---- counting

pub statements_within : (place : ℕ) (ss : List Statement) → statements_before place ss ≤ length ss
statements_within place [] = omega arith
statements_within place (s ∷ ss) = by (ltb s.line.start place) (statements_within place ss)
  where
    by : (b : Bool) → statements_before place ss ≤ length ss
        → (if b then suc (statements_before place ss) else 0) ≤ length (s ∷ ss)
    by true h = omega (arith, h)
    by false h = omega arith

-- no more than come before one that does not begin before the place
pub statements_stop : (place : ℕ) (ss : List Statement) (n : ℕ) (s : Statement) → slice_get ss n ≡ Some s
    → place ≤ s.line.start → statements_before place ss ≤ n
statements_stop place ss n s e h =
    stop ss n (slice_get_within ss n s e)
    (subst (λ (t : Statement). place ≤ t.line.start) (sym (get_or_from_slice_get ss n s s e)) h)
  where
    by : (b : Bool) (k n : ℕ) → k ≤ n → (if b then suc k else 0) ≤ suc n
    by true k n le = omega (arith, le)
    by false k n le = omega arith

    stop : (ss : List Statement) (n : ℕ) → n < length ss → place ≤ (get_or ss n s).line.start
        → statements_before place ss ≤ n
    stop [] n within h = absurd (omega (arith, within))
    stop (x ∷ xs) zero within h =
        omega (
          arith,
          if_false (ltb x.line.start place) (suc (statements_before place xs)) 0 (le-ltb x.line.start place h),
        )
    stop (x ∷ xs) (suc n) within h =
        by (ltb x.line.start place) (statements_before place xs) n (stop xs n (omega (arith, within)) h)

-- more than one of ascending lines that begins before the place
pub statements_more : (place : ℕ) (ss : List Statement) (n : ℕ) (s : Statement) → LinesAscend 0 ss
    → slice_get ss n ≡ Some s → s.line.start < place → n + 1 ≤ statements_before place ss
statements_more place ss n s order e h =
    omega (
      arith,
      more 0 ss n order (slice_get_within ss n s e)
          (subst (λ (t : Statement). t.line.start < place) (sym (get_or_from_slice_get ss n s s e)) h),
    )
  where
    low_at : (low : ℕ) (ss : List Statement) (n : ℕ) → LinesAscend low ss → n < length ss
        → low ≤ (get_or ss n s).line.start
    low_at low [] n order within = absurd (omega (arith, within))
    low_at low (x ∷ xs) zero order within = order.0
    low_at low (x ∷ xs) (suc n) order within =
        omega (arith, order.0, low_at x.line.start xs n order.1 (omega (arith, within)))

    more : (low : ℕ) (ss : List Statement) (n : ℕ) → LinesAscend low ss → n < length ss
        → (get_or ss n s).line.start < place → n < statements_before place ss
    more low [] n order within h = absurd (omega (arith, within))
    more low (x ∷ xs) zero order within h =
        omega (
          arith,
          if_true (ltb x.line.start place) (suc (statements_before place xs)) 0 (lt-ltb x.line.start place h),
        )
    more low (x ∷ xs) (suc n) order within h =
        omega (
          arith,
          if_true (ltb x.line.start place) (suc (statements_before place xs)) 0
              (lt-ltb x.line.start place (omega (arith, h, low_at x.line.start xs n order.1 (omega (arith, within))))),
          more x.line.start xs n order.1 (omega (arith, within)) h,
        )

pub key_found : (all : ℕ) (ss : List Statement) (n : ℕ) (s : Statement) → slice_get ss n ≡ Some s
    → s.first_key ≡ first_key all (drop n ss)
key_found all ss n s e = sym (ap (first_key all) (drop_next ss n s e))

pub value_found : (all : ℕ) (ss : List Statement) (n : ℕ) (s : Statement) (v : ℕ) → slice_get ss n ≡ Some s
    → s.value ≡ Some v → first_value all (drop n ss) ≡ v
value_found all ss n s v e h =
    ap (first_value all) (drop_next ss n s e) ∙ ap (value_or (first_value all (drop (n + 1) ss))) h

pub value_none : (all : ℕ) (ss : List Statement) (n : ℕ) (s : Statement) → slice_get ss n ≡ Some s → s.value ≡ None
    → first_value all (drop n ss) ≡ first_value all (drop (n + 1) ss)
value_none all ss n s e h =
    ap (first_value all) (drop_next ss n s e) ∙ ap (value_or (first_value all (drop (n + 1) ss))) h
