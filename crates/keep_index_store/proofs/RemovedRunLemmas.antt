-- A run of nodes once a node that is none of them is gone: each number is less by one, or none is.
--
-- Theorem: `run_earlier`.
use Rattle.std.proofs.Common.{◌≡◌, ◌≢◌, ℕ, zero, suc, ◌-◌, ◌<◌, ◌≤◌, List, ◌∷◌, length, map}
use Rattle.std.proofs.Common.{refl, sym, ◌∙◌, ap, subst, arith, inl, inr}
use Rattle.std.specs.Prelude.{All}
use Rattle.std.proofs.lemmas.Bool.{cases_lt}
use Rattle.keep_path.specs.NodeInfos.{earlier_number}
use Rattle.keep_index_store.specs.Children.{ChildList, Listed}
use Rattle.keep_index_store.specs.Removed.{HasNoItem}
use Rattle.keep_index_store.specs.Runs.{consecutive}
use Rattle.keep_index_store.proofs.RemovedListLemmas.{earlier_low, earlier_high}

falls : (at first next n : ℕ) → at < first → suc next ≡ first
    → consecutive next n ≡ map (earlier_number at) (consecutive first n)
falls at first next zero h is = refl
falls at first next (suc n) h is =
    let before : first - 1 ≡ next = omega (arith, is) in
    let own : earlier_number at first ≡ next = earlier_high at first h ∙ before in
    ap (λ (k : ℕ). k ∷ consecutive (suc next) n) (sym own)
    ∙ ap (λ (ks : List ℕ). earlier_number at first ∷ ks) (falls at (suc first) (suc next) n (omega arith) (ap suc is))

stays : (at first n : ℕ) → first ≤ at → All (λ id. id ≢ at) (consecutive first n)
    → consecutive first n ≡ map (earlier_number at) (consecutive first n)
stays at first zero h apart = refl
stays at first (suc n) h apart =
    let some : 0 < length (first ∷ consecutive (suc first) n) = omega arith in
    let far : first ≡ at → ⊥ = apart 0 first some in
    ap (λ (k : ℕ). k ∷ consecutive (suc first) n) (sym (earlier_low at first h))
    ∙ ap (λ (ks : List ℕ). earlier_number at first ∷ ks)
    (stays at (suc first) n (omega (arith, h, far)) (λ k d low. apart (suc k) d (omega (arith, low))))

pub run_earlier : (at first n : ℕ) → All (λ id. id ≢ at) (consecutive first n)
    → consecutive (earlier_number at first) n ≡ map (earlier_number at) (consecutive first n)
run_earlier at first n apart = elim (cases_lt at first) [
  | inl above ↦
      let after : suc (first - 1) ≡ first = omega (arith, above) in
      ap (λ (k : ℕ). consecutive k n) (earlier_high at first above) ∙ falls at first (first - 1) n above after
  | inr below ↦ ap (λ (k : ℕ). consecutive k n) (earlier_low at first below) ∙ stays at first n below apart
]

-- what the children of a node are, by their form
pub run_apart : (at : ℕ) (c : ChildList) (first n : ℕ) → HasNoItem at c → c ≡ Listed (consecutive first n)
    → All (λ id. id ≢ at) (consecutive first n)
run_apart at c first n none is = subst (HasNoItem at) is none refl
