-- One element more in a list, which does not pass a test: what the test finds of the others is as before.
--
-- Theorems: `number_put`: the first that passes is the same, with a later number if it comes after the new one;
-- `filter_put`: those that pass are the same.
use Rattle.std.proofs.Common.{◌≡◌, ℕ, zero, suc, ◌+◌, ◌<◌, Bool, true, false, cond, not, List, [], ◌∷◌, ◌++◌, length}
use Rattle.std.proofs.Common.{get_or, refl, sym, ap, ◌∙◌, inl, inr, arith, Option, Some, None}
use Rattle.std.specs.Prelude.{filter, nat_lt, position, slice_get}
use Rattle.std.specs.List.{position_or_len}
use Rattle.std.specs.Option.{option_map}
use Rattle.std.proofs.lemmas.Bool.{cases_lt, lt-ltb, le-ltb}
use Rattle.std.proofs.lemmas.List.Elements.{filter-append}
use Rattle.keep_path.specs.NodeInfos.{later_number}

pub low_stays : (at n : ℕ) → n < at → later_number at n ≡ n
low_stays at n low = ap (λ (b : Bool). cond b n (suc n)) (lt-ltb n at low)

-- the first that passes
abbrev first_by : ℕ → ℕ → Option ℕ
first_by at many = cond (nat_lt at many) (Some at) None

first_more : (n many : ℕ) → first_by (1 + n) (suc many) ≡ option_map suc (first_by n many)
first_more n many = elim (cases_lt n many) [
  | inl low ↦
      let next : 1 + n ≡ suc n = omega arith in
      ap (λ (k : ℕ). first_by k (suc many)) next
      ∙ ap (λ (b : Bool). cond b (Some (suc n)) None) (lt-ltb (suc n) (suc many) (omega (arith, low)))
      ∙ sym (ap (λ (b : Bool). option_map suc (cond b (Some n) None)) (lt-ltb n many low))
  | inr high ↦
      let next : 1 + n ≡ suc n = omega arith in
      ap (λ (k : ℕ). first_by k (suc many)) next
      ∙ ap (λ (b : Bool). cond {A = Option ℕ} b (Some (suc n)) None) (le-ltb (suc n) (suc many) (omega (arith, high)))
      ∙ sym (ap (λ (b : Bool). option_map suc (cond b (Some n) None)) (le-ltb n many high))
]

position_cons : {A : Type 0} (test : A → Bool) (x : A) (xs : List A)
    → position test (x ∷ xs) ≡ cond (test x) (Some 0) (option_map suc (position test xs))
position_cons test x xs = by (test x)
  where
    by : (b : Bool)
        → first_by (cond (not b) (1 + position_or_len test xs) 0) (suc (length xs))
        ≡ cond b (Some 0) (option_map suc (position test xs))
    by true = ap (λ (b : Bool). cond {A = Option ℕ} b (Some 0) None) (lt-ltb 0 (suc (length xs)) (omega arith))
    by false = first_more (position_or_len test xs) (length xs)

later_zero : (o : Option ℕ) → option_map suc o ≡ option_map (later_number 0) o
later_zero None = refl
later_zero (Some n) = ap Some (sym (ap (λ (b : Bool). cond b n (suc n)) (le-ltb n 0 (omega arith))))

later_suc : (at : ℕ) (o : Option ℕ)
    → option_map suc (option_map (later_number at) o) ≡ option_map (later_number (suc at)) (option_map suc o)
later_suc at None = refl
later_suc at (Some n) = ap Some (elim (cases_lt n at) [
  | inl low ↦ ap suc (low_stays at n low) ∙ sym (low_stays (suc at) (suc n) (omega (arith, low)))
  | inr high ↦
      ap (λ (b : Bool). suc (cond b n (suc n))) (le-ltb n at high)
      ∙ sym (ap (λ (b : Bool). cond b (suc n) (suc (suc n))) (le-ltb (suc n) (suc at) (omega (arith, high))))
])

-- the number of an element, if the new one does not pass
pub number_put : {A : Type 0} (test : A → Bool) (xs ys : List A) (p : A) → test p ≡ false
    → position test (xs ++ p ∷ ys) ≡ option_map (later_number (length xs)) (position test (xs ++ ys))
number_put test [] ys p e =
    position_cons test p ys ∙ ap (λ (b : Bool). cond b (Some 0) (option_map suc (position test ys))) e
    ∙ later_zero (position test ys)
number_put test (a ∷ xs) ys p e =
    position_cons test a (xs ++ p ∷ ys) ∙ by (test a) (number_put test xs ys p e)
    ∙ sym (ap (option_map (later_number (suc (length xs)))) (position_cons test a (xs ++ ys)))
  where
    by : (b : Bool) → position test (xs ++ p ∷ ys) ≡ option_map (later_number (length xs)) (position test (xs ++ ys))
        → cond b (Some 0) (option_map suc (position test (xs ++ p ∷ ys)))
        ≡ option_map (later_number (suc (length xs))) (cond b (Some 0) (option_map suc (position test (xs ++ ys))))
    by true h = ap Some (sym (low_stays (suc (length xs)) 0 (omega arith)))
    by false h = ap (option_map suc) h ∙ later_suc (length xs) (position test (xs ++ ys))

-- those that pass
pub filter_put : {A : Type 0} (test : A → Bool) (xs ys : List A) (p : A) → test p ≡ false
    → filter test (xs ++ p ∷ ys) ≡ filter test (xs ++ ys)
filter_put test xs ys p e =
    filter-append test xs (p ∷ ys)
    ∙ ap (λ (b : Bool). filter test xs ++ cond b (p ∷ filter test ys) (filter test ys)) e
    ∙ sym (filter-append test xs ys)

pub filter_get : {A : Type 0} (test : A → Bool) (xs : List A) (i : ℕ) (x : A) → slice_get (filter test xs) i ≡ Some x
    → test x ≡ true
filter_get test [] i x h = absurd cc
filter_get test (y ∷ ys) i x h = by (test y) refl i h (λ j. filter_get test ys j x)
  where
    by : (b : Bool) → test y ≡ b → (i : ℕ) → slice_get (cond b (y ∷ filter test ys) (filter test ys)) i ≡ Some x
        → ((j : ℕ) → slice_get (filter test ys) j ≡ Some x → test x ≡ true) → test x ≡ true
    by true e zero h more = let same : y ≡ x = cc in sym (ap test same) ∙ e
    by true e (suc i) h more = more i h
    by false e i h more = more i h

pub filter_some : {A : Type 0} (test : A → Bool) (xs : List A) (i : ℕ) (d : A) → i < length xs
    → test (get_or xs i d) ≡ true → filter test xs ≡ [] → ⊥
filter_some test [] i d low h e = absurd (omega (arith, low))
filter_some test (y ∷ ys) zero d low h e =
    let some : y ∷ filter test ys ≡ [] = ap (λ (b : Bool). cond b (y ∷ filter test ys) (filter test ys)) (sym h) ∙ e in
    cc
filter_some test (y ∷ ys) (suc i) d low h e = by (test y) e (filter_some test ys i d (omega (arith, low)) h)
  where
    by : (b : Bool) → cond b (y ∷ filter test ys) (filter test ys) ≡ [] → (filter test ys ≡ [] → ⊥) → ⊥
    by true e more = cc
    by false e more = more e
