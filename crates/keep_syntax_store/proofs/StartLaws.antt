-- Stored places: the next of them, and one more after them.
--
-- A place is stored as a step from the place before it, or, where the step is `FAR`, as the next of the far places
-- (`places_at`). So the places are read step by step: `near_step` and `far_step` give the next one and those after it.
-- For these it holds again that each far step has its place (`near_matched`, `far_matched`) and that all places are
-- less than 2 ^ 64 (`near_rest`, `far_rest`). By induction over the steps, there are as many places as steps
-- (`places_all`), and places that are stored after others continue from the last of those (`places_join`). One more
-- place is such a join, with one step (`near_more`, `far_more`). With it `StepsAreStored` holds again, if the place is
-- less than 2 ^ 64 and not before the last one (`stored_more`).
--
-- Theorems: `places_join`: places that are stored after others; `stored_more`: one more place; `places_all`: each step
-- has its place.
use Rattle.std.proofs.Common.{◌≡◌, ℕ, zero, suc, ◌+◌, ◌<◌, ◌≤◌, ◌^◌, Bool, true, false, cond, ◌==◌, List, [], ◌∷◌, ◌++◌}
use Rattle.std.proofs.Common.{length, get_or, refl, sym, ap, ◌∙◌, subst, inl, inr, arith}
use Rattle.std.proofs.lemmas.List.{append-nil, length-append}
use Rattle.std.proofs.lemmas.List.Sums.{sum_by-cons, sum_by_push}
use Rattle.std.proofs.lemmas.Bool.Decides.{eqb_tells}
use Rattle.keep_syntax_store.specs.declared.starts.TheConstants.{FAR}
use Rattle.keep_syntax_store.specs.Starts.{places_at, last_of, AllSmall, Ascend, fars, StepsAreStored}
use Rattle.keep_syntax_store.proofs.AscendLaws.{ascend_join}

-- ---- the next

near_test : (step : ℕ) → (step ≡ FAR → ⊥) → (step == FAR) ≡ false
near_test step other = elim (eqb_tells step FAR) [ inl t ↦ absurd (other t.1) | inr t ↦ t.0 ]

pub near_step : (at step : ℕ) (steps far : List ℕ) → (step == FAR) ≡ false
    → places_at at (step ∷ steps) far ≡ (at + step) ∷ places_at (at + step) steps far
near_step at step steps [] is = rw is
near_step at step steps (place ∷ far) is = rw is

pub far_step : (at step : ℕ) (steps : List ℕ) (place : ℕ) (far : List ℕ) → (step == FAR) ≡ true
    → places_at at (step ∷ steps) (place ∷ far) ≡ place ∷ places_at place steps far
far_step at step steps place far is = rw is

small_tail : (place : ℕ) (places : List ℕ) → AllSmall (place ∷ places) → AllSmall places
small_tail place places small = λ k. small (suc k)

-- a near place is small, and so are those after it
near_small : (at step : ℕ) (all steps far : List ℕ) → all ≡ step ∷ steps → (step ≡ FAR → ⊥)
    → AllSmall (places_at at all far) → AllSmall ((at + step) ∷ places_at (at + step) steps far)
near_small at step all steps far is other small =
    subst AllSmall (ap (λ (s : List ℕ). places_at at s far) is ∙ near_step at step steps far (near_test step other))
    small

pub near_fits : (at step : ℕ) (all steps far : List ℕ) → all ≡ step ∷ steps → (step ≡ FAR → ⊥)
    → AllSmall (places_at at all far) → at + step < 2 ^ 64
near_fits at step all steps far is other small = near_small at step all steps far is other small 0

pub near_rest : (at step : ℕ) (all steps far : List ℕ) → all ≡ step ∷ steps → (step ≡ FAR → ⊥)
    → AllSmall (places_at at all far) → AllSmall (places_at (at + step) steps far)
near_rest at step all steps far is other small =
    small_tail (at + step) (places_at (at + step) steps far) (near_small at step all steps far is other small)

-- those after a far place are small
pub far_rest : (at step place : ℕ) (all steps all_far far : List ℕ) → all ≡ step ∷ steps → step ≡ FAR
    → all_far ≡ place ∷ far → AllSmall (places_at at all all_far) → AllSmall (places_at place steps far)
far_rest at step place all steps all_far far is there first small =
    let e : places_at at all all_far ≡ places_at at (FAR ∷ steps) (place ∷ far) =
    ap (λ (s : List ℕ). places_at at s all_far) is ∙ ap (λ (s : ℕ). places_at at (s ∷ steps) all_far) there
    ∙ ap (places_at at (FAR ∷ steps)) first in
    small_tail place (places_at place steps far) (subst AllSmall e small)

-- ---- one more

-- how many of the steps lead to a far place, by the first step and by the last
pub fars_after : (step : ℕ) (steps : List ℕ) (test : Bool) → (step == FAR) ≡ test
    → fars (step ∷ steps) ≡ cond test 1 0 + fars steps
fars_after step steps test is =
    sum_by-cons (λ (s : ℕ). cond (s == FAR) 1 0) step steps ∙ ap (λ (b : Bool). cond b 1 0 + fars steps) is

pub near_matched : (step : ℕ) (all steps far : List ℕ) → all ≡ step ∷ steps → (step ≡ FAR → ⊥) → length far ≡ fars all
    → length far ≡ fars steps
near_matched step all steps far is other even =
    omega (arith, even, ap fars is, fars_after step steps false (near_test step other))

pub far_matched : (step place : ℕ) (all steps all_far far : List ℕ) → all ≡ step ∷ steps → step ≡ FAR
    → all_far ≡ place ∷ far → length all_far ≡ fars all → length far ≡ fars steps
far_matched step place all steps all_far far is there first even =
    omega (
      arith,
      even,
      ap length first,
      ap fars is,
      ap (λ (s : ℕ). fars (s ∷ steps)) there,
      fars_after FAR steps true refl,
    )

fars_more : (steps : List ℕ) (step : ℕ) → fars (steps ++ step ∷ []) ≡ fars steps + cond (step == FAR) 1 0
fars_more steps step = sum_by_push (λ (s : ℕ). cond (s == FAR) 1 0) steps step

-- places that are stored after others continue from the last of those
pub places_join : (at : ℕ) (steps far more beyond : List ℕ) → length far ≡ fars steps
    → places_at at (steps ++ more) (far ++ beyond) ≡ places_at at steps far
    ++ places_at (last_of at (places_at at steps far)) more beyond
places_join at [] [] more beyond n = refl
places_join at [] (place ∷ far) more beyond n = absurd (omega arith)
places_join at (step ∷ steps) [] more beyond n = elim (eqb_tells step FAR) [
  | inl t ↦ absurd (omega (arith, fars_after step steps true t.0))
  | inr t ↦
      near_step at step (steps ++ more) beyond t.0
      ∙ ap (λ (ps : List ℕ). (at + step) ∷ ps)
      (places_join (at + step) steps [] more beyond (omega (arith, fars_after step steps false t.0)))
      ∙ sym (ap (λ (ps : List ℕ). ps ++ places_at (last_of at ps) more beyond) (near_step at step steps [] t.0))
]
places_join at (step ∷ steps) (place ∷ far) more beyond n = elim (eqb_tells step FAR) [
  | inl t ↦
      far_step at step (steps ++ more) place (far ++ beyond) t.0
      ∙ ap (λ (ps : List ℕ). place ∷ ps)
      (places_join place steps far more beyond (omega (arith, fars_after step steps true t.0)))
      ∙ sym (ap (λ (ps : List ℕ). ps ++ places_at (last_of at ps) more beyond) (far_step at step steps place far t.0))
  | inr t ↦
      near_step at step (steps ++ more) (place ∷ (far ++ beyond)) t.0
      ∙ ap (λ (ps : List ℕ). (at + step) ∷ ps)
      (places_join (at + step) steps (place ∷ far) more beyond (omega (arith, fars_after step steps false t.0)))
      ∙ sym (ap (λ (ps : List ℕ). ps ++ places_at (last_of at ps) more beyond)
      (near_step at step steps (place ∷ far) t.0))
]

-- a place is stored after those of these steps and far places
pub record IsMore (steps far new new_far : List ℕ) (at : ℕ) : Type 0 where
  pub matched : length new_far ≡ fars new
  pub more : places_at 0 new new_far ≡ places_at 0 steps far ++ at ∷ []

pub near_more : (steps far new new_far : List ℕ) (last step at : ℕ) → StepsAreStored steps far last → (step ≡ FAR → ⊥)
    → last + step ≡ at → new ≡ steps ++ step ∷ [] → new_far ≡ far → IsMore steps far new new_far at
near_more steps far new new_far last step at stored other is e e_far =
    let t : (step == FAR) ≡ false = near_test step other in
    let from : ℕ = last_of 0 (places_at 0 steps far) in
    record {
      matched =
          ap length e_far ∙ stored.matched
          ∙ sym (ap fars e ∙ fars_more steps step ∙ ap (λ (b : Bool). fars steps + cond b 1 0) t ∙ omega arith);
      more =
          ap (λ (s : List ℕ). places_at 0 s new_far) e
          ∙ ap (places_at 0 (steps ++ step ∷ [])) (e_far ∙ sym (append-nil far))
          ∙ places_join 0 steps far (step ∷ []) [] stored.matched
          ∙ ap (λ (ps : List ℕ). places_at 0 steps far ++ ps)
          (near_step from step [] [] t
          ∙ ap (λ (place : ℕ). place ∷ []) (ap (λ (place : ℕ). place + step) (sym stored.last_is) ∙ is));
    }

pub far_more : (steps far new new_far : List ℕ) (last step at : ℕ) → StepsAreStored steps far last → step ≡ FAR
    → new ≡ steps ++ step ∷ [] → new_far ≡ far ++ at ∷ [] → IsMore steps far new new_far at
far_more steps far new new_far last step at stored there e e_far =
    let e' : new ≡ steps ++ FAR ∷ [] = e ∙ ap (λ (s : ℕ). steps ++ s ∷ []) there in
    record {
      matched =
          ap length e_far ∙ omega (arith, length-append far (at ∷ []), stored.matched, fars_more steps FAR)
          ∙ sym (ap fars e');
      more = ap (λ (s : List ℕ). places_at 0 s new_far) e' ∙ ap (places_at 0 (steps ++ FAR ∷ [])) e_far
          ∙ places_join 0 steps far (FAR ∷ []) (at ∷ []) stored.matched;
    }

small_more : (places : List ℕ) (at : ℕ) → AllSmall places → at < 2 ^ 64 → (k : ℕ)
    → get_or (places ++ at ∷ []) k 0 < 2 ^ 64
small_more [] at small le zero = le
small_more [] at small le (suc k) = small k
small_more (place ∷ places) at small le zero = small 0
small_more (place ∷ places) at small le (suc k) = small_more places at (λ j. small (suc j)) le k

last_more : (from : ℕ) (places : List ℕ) (at : ℕ) → last_of from (places ++ at ∷ []) ≡ at
last_more from [] at = refl
last_more from (place ∷ places) at = last_more place places at

pub stored_more : (steps far new new_far : List ℕ) (last at : ℕ) → StepsAreStored steps far last
    → IsMore steps far new new_far at → last ≤ at → at < 2 ^ 64 → StepsAreStored new new_far at
stored_more steps far new new_far last at stored is order le = record {
  matched = is.matched;
  small = subst AllSmall (sym is.more) (small_more (places_at 0 steps far) at stored.small le);
  last_is = sym (ap (last_of 0) is.more ∙ last_more 0 (places_at 0 steps far) at);
  ascends =
      subst (Ascend 0) (sym is.more)
      (ascend_join 0 (places_at 0 steps far) (at ∷ []) stored.ascends (omega (arith, order, stored.last_is), tt));
}

-- ---- how many

-- each step has its place
pub places_all : (at : ℕ) (steps far : List ℕ) → length far ≡ fars steps
    → length (places_at at steps far) ≡ length steps
places_all at [] far n = refl
places_all at (step ∷ steps) [] n = elim (eqb_tells step FAR) [
  | inl t ↦ absurd (omega (arith, fars_after step steps true t.0))
  | inr t ↦ ap length (near_step at step steps [] t.0)
      ∙ ap suc (places_all (at + step) steps [] (omega (arith, fars_after step steps false t.0)))
]
places_all at (step ∷ steps) (place ∷ far) n = elim (eqb_tells step FAR) [
  | inl t ↦ ap length (far_step at step steps place far t.0)
      ∙ ap suc (places_all place steps far (omega (arith, fars_after step steps true t.0)))
  | inr t ↦ ap length (near_step at step steps (place ∷ far) t.0)
      ∙ ap suc (places_all (at + step) steps (place ∷ far) (omega (arith, fars_after step steps false t.0)))
]
