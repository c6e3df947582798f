-- How many lines come at a byte, by the lengths of their tables.
--
-- What a path is below has fewer steps (`below_shorter`); what it is above, or is, has not (`not_below`). As many of a
-- list pass one test as pass another that comes to the same for each (`count_alike`).
--
-- Theorems: `sum_next`: a sum, step by step; `none_more`: with counts of a further length; `one_more`: with
-- one more of a length; `below_shorter`, `not_below`, `count_alike`.
use Rattle.std.proofs.Common.{◌≡◌, ◌<◌, ◌+◌, ◌∙◌, ℕ, zero, suc, Bool, true, false, List, [], ◌∷◌, ◌++◌, All, ap}
use Rattle.std.proofs.Common.{ap₂, arith, cond, get_or, inl, inr, length, length-append, refl, sym, take}
use Rattle.std.specs.Prelude.{◌==◌, ◌&&◌, nat_lt}
use Rattle.std.proofs.Math.ListN.{set}
use Rattle.std.proofs.Math.Seq.{take-nil}
use Rattle.std.specs.List.{count_by}
use Rattle.std.proofs.lemmas.Bool.{cases_lt, le-ltb, lt-ltb}
use Rattle.std.proofs.lemmas.List.Elements.{All-head, All-tail}
use Rattle.std.proofs.lemmas.List.Sums.{sum_by-cons}
use Rattle.keep_path.specs.Path.{Part}
use Rattle.keep_edit_spec.specs.DottedLines.{IsAtOrBelow}
use Rattle.keep_edit_spec.specs.LinesAhead.{is_below}
use Rattle.keep_edit_spec.proofs.Shared.{below_more}
use Rattle.keep_edit_runs.specs.Counts.{IsOneMore, count_at, sum_at}
use Rattle.keep_edit_runs.specs.declared.counts.Counts.{Counts}

-- ---- lengths of paths

pub below_shorter : (path above : List Part) → is_below path above ≡ true
    → is_below path above ≡ nat_lt (length above) (length path)
below_shorter path above is =
    let (p, (ps, far)) = below_more path above is in
    is ∙ sym (lt-ltb (length above) (length path) (omega (arith, ap length far, length-append above (p ∷ ps))))

pub not_below : (path above : List Part) → IsAtOrBelow above path
    → is_below path above ≡ nat_lt (length above) (length path)
not_below path above (more, is) =
    by (is_below path above) refl
    ∙ sym (le-ltb (length above) (length path) (omega (arith, ap length is, length-append path more)))
  where
    by : (b : Bool) → is_below path above ≡ b → is_below path above ≡ false
    by false e = e
    by true e =
        let (p, (ps, far)) = below_more path above e in
        absurd (omega (
          arith,
          ap length far,
          length-append above (p ∷ ps),
          ap length is,
          length-append path more,
        ))

-- ---- how many pass a test

pub count_alike : {A : Type 0} (test other : A → Bool) (xs : List A) → All (λ x. test x ≡ other x) xs
    → count_by test xs ≡ count_by other xs
count_alike test other [] all = refl
count_alike test other (x ∷ xs) all =
    sum_by-cons (λ y. cond (test y) 1 0) x xs
    ∙ ap₂ (λ (b : Bool) (n : ℕ). cond b 1 0 + n) (All-head (λ y. test y ≡ other y) x xs all)
    (count_alike test other xs (All-tail (λ y. test y ≡ other y) x xs all))
    ∙ sym (sum_by-cons (λ y. cond (other y) 1 0) x xs)

-- ---- sums

-- one count more
sum_more : (cs : List Counts) (n at : ℕ) (d : Counts) → n < length cs
    → sum_at (take (suc n) cs) at ≡ sum_at (take n cs) at + count_at (get_or cs n d) at
sum_more [] n at d less = absurd (omega (arith, less))
sum_more (c ∷ cs) zero at d less = omega arith
sum_more (c ∷ cs) (suc n) at d less = omega (arith, sum_more cs n at d (omega (arith, less)))

pub sum_next : (cs : List Counts) (n at : ℕ) (d : Counts) → n < length cs
    → sum_at (take (n + 1) cs) at ≡ sum_at (take n cs) at + count_at (get_or cs n d) at
sum_next cs n at d less =
    ap (λ (k : ℕ). sum_at (take k cs) at) (let next : n + 1 ≡ suc n = omega arith in next) ∙ sum_more cs n at d less

-- one with no counts more
pub none_more : (cs : List Counts) (c : Counts) → ((n : ℕ) → count_at c n ≡ 0) → (most at : ℕ)
    → sum_at (take most (cs ++ c ∷ [])) at ≡ sum_at (take most cs) at
none_more cs c none zero at = refl
none_more [] c none (suc most) at =
    omega (arith, none at, ap (λ (l : List Counts). sum_at l at) (take-nil most))
none_more (x ∷ cs) c none (suc most) at = ap (λ (n : ℕ). count_at x at + n) (none_more cs c none most at)

abbrev one_if : Bool → ℕ
one_if b = cond b 1 0

-- One of these counts one more.
pub one_more : (cs : List Counts) (i : ℕ) (new d : Counts) (at : ℕ) → i < length cs → IsOneMore (get_or cs i d) at new
    → (most n : ℕ) → sum_at (take most (set cs i new)) n
    ≡ one_if ((at == n) && nat_lt i most) + sum_at (take most cs) n
one_more [] i new d at less one most n = absurd (omega (arith, less))
one_more (c ∷ cs) i new d at less one zero n =
    omega (arith, ap (λ (b : Bool). one_if ((at == n) && b)) (le-ltb i 0 (omega arith)), never (at == n))
  where
    never : (here : Bool) → one_if (here && false) ≡ 0
    never true = refl
    never false = refl
one_more (c ∷ cs) zero new d at less one (suc most) n =
    omega (
      arith,
      one n,
      ap (λ (b : Bool). one_if ((at == n) && b)) (lt-ltb 0 (suc most) (omega arith)),
      always (at == n),
    )
  where
    always : (here : Bool) → one_if (here && true) ≡ one_if here
    always true = refl
    always false = refl
one_more (c ∷ cs) (suc i) new d at less one (suc most) n =
    omega (
      arith,
      one_more cs i new d at (omega (arith, less)) one most n,
      ap (λ (b : Bool). one_if ((at == n) && b)) (further i most),
    )
  where
    further : (k m : ℕ) → nat_lt (suc k) (suc m) ≡ nat_lt k m
    further k m = elim (cases_lt k m) [
      | inl l ↦ lt-ltb (suc k) (suc m) (omega (arith, l)) ∙ sym (lt-ltb k m l)
      | inr g ↦ le-ltb (suc k) (suc m) (omega (arith, g)) ∙ sym (le-ltb k m g)
    ]
