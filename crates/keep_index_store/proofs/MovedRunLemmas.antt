-- A run of nodes under other numbers: each number grows by one, or none does.
--
-- Theorems: `run_grows`: from `at` on, each number grows by one; `run_stays`: before `at`, none does.
use Rattle.std.proofs.Common.{◌≡◌, ℕ, zero, suc, ◌+◌, ◌-◌, ◌<◌, ◌≤◌, List, ◌∷◌, length, map, refl, sym, ◌∙◌, ap, subst}
use Rattle.std.proofs.Common.{arith, inl, inr}
use Rattle.std.specs.Prelude.{All}
use Rattle.std.proofs.lemmas.List.{get_or-map, length-map}
use Rattle.std.proofs.lemmas.Bool.{cases_lt}
use Rattle.keep_index_store.specs.Moved.{CanMove, EndsLate, IsApart, moved_number}
use Rattle.keep_index_store.specs.Runs.{consecutive}
use Rattle.keep_index_store.specs.Children.{ChildList, Keyed, Listed}
use Rattle.keep_index_store.proofs.RunLemmas.{get_or-consecutive}
use Rattle.keep_index_store.proofs.MovedListLemmas.{later_low, later_high, moved_other}

run_count : (first n : ℕ) → length (consecutive first n) ≡ n
run_count first zero = refl
run_count first (suc n) = ap suc (run_count (suc first) n)

grows : (last at first next n : ℕ) → at ≤ first → first + n ≤ last → suc first ≡ next
    → consecutive next n ≡ map (moved_number last at) (consecutive first n)
grows last at first next zero h g is = refl
grows last at first next (suc n) h g is =
    let own : moved_number last at first ≡ next =
    moved_other last at first (λ e. absurd (omega arith)) ∙ later_high at first h ∙ is in
    ap (λ (k : ℕ). k ∷ consecutive (suc next) n) (sym own)
    ∙ ap (λ (ks : List ℕ). moved_number last at first ∷ ks)
    (grows last at (suc first) (suc next) n (omega arith) (omega arith) (ap suc is))

stays : (last at first n : ℕ) → first + n ≤ at → (0 < n → first + n ≤ last)
    → consecutive first n ≡ map (moved_number last at) (consecutive first n)
stays last at first zero h g = refl
stays last at first (suc n) h g =
    let below : first + suc n ≤ last = g (omega arith) in
    let own : moved_number last at first ≡ first =
    moved_other last at first (λ e. absurd (omega arith)) ∙ later_low at first (omega arith) in
    ap (λ (k : ℕ). k ∷ consecutive (suc first) n) (sym own)
    ∙ ap (λ (ks : List ℕ). moved_number last at first ∷ ks)
    (stays last at (suc first) n (omega arith) (λ m. omega arith))

pub run_grows : (last at first n : ℕ) → at ≤ first → first + n ≤ last
    → consecutive (first + 1) n ≡ map (moved_number last at) (consecutive first n)
run_grows last at first n h g = grows last at first (first + 1) n h g (omega arith)

pub run_stays : (last at first n : ℕ) → (0 < n → first < at) → (0 < n → first + n ≤ last)
    → IsApart at (consecutive first n) → consecutive first n ≡ map (moved_number last at) (consecutive first n)
run_stays last at first zero h g apart = refl
run_stays last at first (suc n) h g apart =
    let low : first < at = h (omega arith) in
    elim (cases_lt at (first + suc n)) [
      | inr before ↦ stays last at first (suc n) before g
      | inl across ↦
          let k : ℕ = at - 1 - first in
          absurd (apart k (omega (arith, low, across, run_count first (suc n)))
          (omega (arith, low, across, get_or-consecutive first (suc n) k 0 (omega (arith, low, across))))
          (get_or-consecutive first (suc n) (k + 1) 0 (omega (arith, low, across))
          ∙ (let e : first + (k + 1) ≡ at = omega (arith, low) in e)))
    ]

-- what the children of a node are, by their form
pub run_within : (last at : ℕ) (c : ChildList) (first n : ℕ) → CanMove last at c → c ≡ Listed (consecutive first n)
    → 0 < n → first + n ≤ last
run_within last at c first n can is some =
    let can' : CanMove last at (Listed (consecutive first n)) = subst (CanMove last at) is can in
    omega (
      arith,
      some,
      can'.items refl (n - 1) 0 (omega (arith, some, run_count first n)),
      get_or-consecutive first n (n - 1) 0 (omega (arith, some)),
    )

pub keys_within : (last at : ℕ) (c : ChildList) (pairs : List (List ℕ × ℕ)) → CanMove last at c → c ≡ Keyed pairs
    → All (λ e. e.1 ≤ last) pairs
keys_within last at c pairs can is k d h =
    let can' : CanMove last at (Keyed pairs) = subst (CanMove last at) is can in
    omega (
      arith,
      can'.within k 0 (omega (arith, h, length-map pairs (λ (e : List ℕ × ℕ). e.1))),
      get_or-map (λ (e : List ℕ × ℕ). e.1) pairs k d 0 h,
    )

pub keys_end : (last at : ℕ) (c : ChildList) (pairs : List (List ℕ × ℕ)) → CanMove last at c → c ≡ Keyed pairs
    → EndsLate at (map (λ e. e.1) pairs)
keys_end last at c pairs can is =
    let can' : CanMove last at (Keyed pairs) = subst (CanMove last at) is can in
    can'.ends
