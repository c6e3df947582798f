-- Places in two parts: what is known at a milestone, and runs of steps that are stored after others as they are.
--
-- A milestone tells how many steps lead to a place, and how many of them are far. Steps before it lead to the same
-- places whatever comes after (`take_places`), so a milestone stays right in a longer list. And the steps after it lead
-- on from its place, with the far places that it leaves over: so a walk can begin there. A run of steps may be stored
-- after others if its first place is where those lead to; moved, its places are as far from one another, so the steps
-- are the same and the far places alone are moved.
--
-- Theorems: `milestones_stay`: milestones are right after more steps; `milestone_cuts`: the places after a milestone
-- are those after as many; `run_after`, `moved_after`: a run is stored after others, as it is or moved.
use Rattle.std.proofs.Common.{◌≡◌, ℕ, zero, suc, ◌+◌, ◌<◌, ◌≤◌, ◌^◌, ◌==◌, true, false, cond, List, [], ◌∷◌, ◌++◌}
use Rattle.std.proofs.Common.{length, get_or, map, take, drop, refl, sym, ap, ◌∙◌, subst, inl, inr, arith}
use Rattle.std.specs.List.{AllByRecursion}
use Rattle.std.proofs.lemmas.List.{length-append, length-map, length-drop, length-take-le, take-append-drop}
use Rattle.std.proofs.lemmas.List.{take-append-le, take_all, take_at, drop_at}
use Rattle.std.proofs.lemmas.List.Sums.{sum_by-append, sum_by-take-drop, sum_by-take-le}
use Rattle.std.proofs.lemmas.Bool.Decides.{eqb_tells}
use Rattle.keep_syntax_store.specs.declared.starts.TheConstants.{FAR}
use Rattle.keep_syntax_store.specs.declared.starts.Milestone.{Milestone}
use Rattle.keep_syntax_store.specs.Starts.{places_at, last_of, AllSmall, Ascend, fars, StepsAreStored, IsMilestone}
use Rattle.keep_syntax_store.specs.Starts.{CanGoOn}
use Rattle.keep_syntax_store.specs.Lifted.{moved}
use Rattle.keep_syntax_store.proofs.StartLaws.{near_step, far_step, fars_after, places_join, places_all}
use Rattle.keep_syntax_store.proofs.AscendLaws.{ascend_join, ascend_moved, last_moved, small_by_last}
use Rattle.keep_syntax_store.proofs.RunLaws.{last_after, small_rest}

-- ---- the first of some steps

pub fars_within : (steps : List ℕ) (n : ℕ) → fars (take n steps) ≤ fars steps
fars_within steps n = sum_by-take-le (λ (s : ℕ). cond (s == FAR) 1 0) steps n

pub fars_split : (steps : List ℕ) (n : ℕ) → fars (take n steps) + fars (drop n steps) ≡ fars steps
fars_split steps n = sum_by-take-drop (λ (s : ℕ). cond (s == FAR) 1 0) steps n

-- as many of their places as they have steps
pub take_places : (at : ℕ) (steps far : List ℕ) (n : ℕ)
    → take n (places_at at steps far) ≡ places_at at (take n steps) (take (fars (take n steps)) far)
take_places at steps far zero = refl
take_places at [] far (suc n) = refl
take_places at (step ∷ steps) [] (suc n) = elim (eqb_tells step FAR) [
  | inl t ↦
      let none : places_at at (step ∷ take n steps) [] ≡ [] = rw t.0 refl in
      let none' : places_at at (step ∷ steps) [] ≡ [] = rw t.0 refl in
      ap (take (suc n)) none'
      ∙ sym (ap (places_at at (step ∷ take n steps)) (take_all (fars (step ∷ take n steps)) [] (omega arith)) ∙ none)
  | inr t ↦
      ap (take (suc n)) (near_step at step steps [] t.0)
      ∙ ap (λ (ps : List ℕ). (at + step) ∷ ps) (take_places (at + step) steps [] n)
      ∙ ap (λ (k : ℕ). (at + step) ∷ places_at (at + step) (take n steps) (take k []))
      (sym (fars_after step (take n steps) false t.0 ∙ omega arith))
      ∙ sym (near_step at step (take n steps) (take (fars (step ∷ take n steps)) []) t.0)
]
take_places at (step ∷ steps) (place ∷ far) (suc n) = elim (eqb_tells step FAR) [
  | inl t ↦
      let count : fars (step ∷ take n steps) ≡ suc (fars (take n steps)) =
      fars_after step (take n steps) true t.0 ∙ omega arith in
      ap (take (suc n)) (far_step at step steps place far t.0)
      ∙ ap (λ (ps : List ℕ). place ∷ ps) (take_places place steps far n)
      ∙ sym (ap (λ (k : ℕ). places_at at (step ∷ take n steps) (take k (place ∷ far))) count
      ∙ far_step at step (take n steps) place (take (fars (take n steps)) far) t.0)
  | inr t ↦
      ap (take (suc n)) (near_step at step steps (place ∷ far) t.0)
      ∙ ap (λ (ps : List ℕ). (at + step) ∷ ps) (take_places (at + step) steps (place ∷ far) n)
      ∙ ap (λ (k : ℕ). (at + step) ∷ places_at (at + step) (take n steps) (take k (place ∷ far)))
      (sym (fars_after step (take n steps) false t.0 ∙ omega arith))
      ∙ sym (near_step at step (take n steps) (take (fars (step ∷ take n steps)) (place ∷ far)) t.0)
]

small_take : (xs : List ℕ) (n : ℕ) → AllSmall xs → (k : ℕ) → get_or (take n xs) k 0 < 2 ^ 64
small_take xs zero small k = omega arith
small_take [] (suc n) small k = omega arith
small_take (x ∷ xs) (suc n) small zero = small 0
small_take (x ∷ xs) (suc n) small (suc k) = small_take xs n (λ j. small (suc j)) k

-- the first of some steps, with as many far places as they need
pub record AreFirst (at : ℕ) (steps far : List ℕ) (n c : ℕ) : Type 0 where
  pub small : AllSmall (places_at at (take n steps) (take c far))
  pub matched : length (take c far) ≡ fars (take n steps)
  pub places : places_at at (take n steps) (take c far) ≡ take n (places_at at steps far)

pub are_first : (at : ℕ) (steps far : List ℕ) (n c : ℕ) → c ≡ fars (take n steps) → length far ≡ fars steps
    → AllSmall (places_at at steps far) → AreFirst at steps far n c
are_first at steps far n c is matched small =
    let e : places_at at (take n steps) (take c far) ≡ take n (places_at at steps far) =
    ap (λ (k : ℕ). places_at at (take n steps) (take k far)) is ∙ sym (take_places at steps far n) in
    record {
      small = subst AllSmall (sym e) (small_take (places_at at steps far) n small);
      matched = length-take-le c far (omega (arith, is, matched, fars_within steps n)) ∙ is;
      places = e;
    }

-- ---- milestones

-- they are as they were after more steps
pub milestone_more : (steps far more beyond : List ℕ) (m : Milestone) → length far ≡ fars steps
    → IsMilestone steps far m → IsMilestone (steps ++ more) (far ++ beyond) m
milestone_more steps far more beyond m matched is =
    let within : m.far ≤ length far = omega (arith, is.counted, matched, fars_within steps m.steps) in
    let one : take m.steps (steps ++ more) ≡ take m.steps steps = take-append-le m.steps steps more is.within in
    let two : take m.far (far ++ beyond) ≡ take m.far far = take-append-le m.far far beyond within in
    record {
      within = omega (arith, is.within, length-append steps more);
      counted = is.counted ∙ sym (ap fars one);
      leads = is.leads
          ∙ sym (ap (λ (s : List ℕ). last_of 0 (places_at 0 s (take m.far (far ++ beyond)))) one
          ∙ ap (λ (f : List ℕ). last_of 0 (places_at 0 (take m.steps steps) f)) two);
    }

pub milestones_more : (steps far more beyond : List ℕ) (ms : List Milestone) → length far ≡ fars steps
    → AllByRecursion (IsMilestone steps far) ms → AllByRecursion (IsMilestone (steps ++ more) (far ++ beyond)) ms
milestones_more steps far more beyond [] matched all = tt
milestones_more steps far more beyond (m ∷ ms) matched all =
    (milestone_more steps far more beyond m matched all.0, milestones_more steps far more beyond ms matched all.1)

pub milestones_stay : (steps far more beyond new new_far : List ℕ) (ms new_ms : List Milestone)
    → length far ≡ fars steps → new ≡ steps ++ more → new_far ≡ far ++ beyond → new_ms ≡ ms
    → AllByRecursion (IsMilestone steps far) ms → AllByRecursion (IsMilestone new new_far) new_ms
milestones_stay steps far more beyond new new_far ms new_ms matched is is_far same all =
    subst (AllByRecursion (IsMilestone new new_far)) (sym same)
    (subst (λ (s : List ℕ). AllByRecursion (IsMilestone s new_far) ms) (sym is)
    (subst (λ (f : List ℕ). AllByRecursion (IsMilestone (steps ++ more) f) ms) (sym is_far)
    (milestones_more steps far more beyond ms matched all)))

-- the places after a milestone
pub record IsCut (steps far : List ℕ) (m : Milestone) : Type 0 where
  pub can : CanGoOn steps far m
  pub left : places_at m.place (drop m.steps steps) (drop m.far far) ≡ drop m.steps (places_at 0 steps far)
  pub last : m.place ≡ last_of 0 (take m.steps (places_at 0 steps far))

pub milestone_cuts : (steps far : List ℕ) (m : Milestone) → length far ≡ fars steps → AllSmall (places_at 0 steps far)
    → IsMilestone steps far m → IsCut steps far m
milestone_cuts steps far m matched small is =
    let a : List ℕ = take m.steps steps in
    let b : List ℕ = drop m.steps steps in
    let f : List ℕ = take m.far far in
    let g : List ℕ = drop m.far far in
    let prefix : List ℕ = places_at 0 a f in
    let rest : List ℕ = places_at m.place b g in
    let within : m.far ≤ length far = omega (arith, is.counted, matched, fars_within steps m.steps) in
    let even : length f ≡ fars a = length-take-le m.far far within ∙ is.counted in
    let whole : places_at 0 steps far ≡ prefix ++ rest =
    ap (λ (s : List ℕ). places_at 0 s far) (sym (take-append-drop m.steps steps))
    ∙ ap (places_at 0 (a ++ b)) (sym (take-append-drop m.far far))
    ∙ places_join 0 a f b g even ∙ ap (λ (place : ℕ). prefix ++ places_at place b g) (sym is.leads) in
    let n : length prefix ≡ m.steps = places_all 0 a f even ∙ length-take-le m.steps steps is.within in
    record {
      can = record {
        within = is.within;
        far_within = within;
        matched = omega (arith, length-drop m.far far, is.counted, matched, fars_split steps m.steps);
        small = small_rest prefix rest (subst AllSmall whole small);
      };
      left = sym (ap (drop m.steps) whole ∙ drop_at prefix rest m.steps n);
      last = is.leads
          ∙ sym (ap (λ (ps : List ℕ). last_of 0 (take m.steps ps)) whole
          ∙ ap (last_of 0) (take_at prefix rest m.steps n));
    }

-- ---- runs of steps

-- moved, the places are as far from one another
pub all_moved : (old new at : ℕ) (steps far : List ℕ) → old ≤ at → Ascend at (places_at at steps far)
    → places_at (moved old new at) steps (map (moved old new) far) ≡ map (moved old new) (places_at at steps far)
all_moved old new at [] far after h = refl
all_moved old new at (step ∷ steps) [] after h = elim (eqb_tells step FAR) [
  | inl t ↦ rw t.0 refl
  | inr t ↦
      let h' : Ascend at ((at + step) ∷ places_at (at + step) steps []) =
      subst (Ascend at) (near_step at step steps [] t.0) h in
      let e : moved old new at + step ≡ moved old new (at + step) = omega (arith, after) in
      near_step (moved old new at) step steps [] t.0
      ∙ ap (λ (place : ℕ). place ∷ places_at place steps []) e
      ∙ ap (λ (ps : List ℕ). moved old new (at + step) ∷ ps)
      (all_moved old new (at + step) steps [] (omega (arith, after)) h'.1)
      ∙ sym (ap (map (moved old new)) (near_step at step steps [] t.0))
]
all_moved old new at (step ∷ steps) (place ∷ far) after h = elim (eqb_tells step FAR) [
  | inl t ↦
      let h' : Ascend at (place ∷ places_at place steps far) =
      subst (Ascend at) (far_step at step steps place far t.0) h in
      far_step (moved old new at) step steps (moved old new place) (map (moved old new) far) t.0
      ∙ ap (λ (ps : List ℕ). moved old new place ∷ ps)
      (all_moved old new place steps far (omega (arith, after, h'.0)) h'.1)
      ∙ sym (ap (map (moved old new)) (far_step at step steps place far t.0))
  | inr t ↦
      let h' : Ascend at ((at + step) ∷ places_at (at + step) steps (place ∷ far)) =
      subst (Ascend at) (near_step at step steps (place ∷ far) t.0) h in
      let e : moved old new at + step ≡ moved old new (at + step) = omega (arith, after) in
      near_step (moved old new at) step steps (map (moved old new) (place ∷ far)) t.0
      ∙ ap (λ (p : ℕ). p ∷ places_at p steps (map (moved old new) (place ∷ far))) e
      ∙ ap (λ (ps : List ℕ). moved old new (at + step) ∷ ps)
      (all_moved old new (at + step) steps (place ∷ far) (omega (arith, after)) h'.1)
      ∙ sym (ap (map (moved old new)) (near_step at step steps (place ∷ far) t.0))
]

-- a run of steps is stored after others
pub record IsAfter (steps far run run_far : List ℕ) (last : ℕ) : Type 0 where
  pub stored : StepsAreStored (steps ++ run) (far ++ run_far) last
  pub places : places_at 0 (steps ++ run) (far ++ run_far) ≡ places_at 0 steps far
      ++ places_at (last_of 0 (places_at 0 steps far)) run run_far

pub run_after : (steps far run run_far : List ℕ) (at last : ℕ) → StepsAreStored steps far at → length run_far ≡ fars run
    → Ascend at (places_at at run run_far) → last ≡ last_of at (places_at at run run_far) → last < 2 ^ 64
    → IsAfter steps far run run_far last
run_after steps far run run_far at last stored even ascends is fits =
    let there : List ℕ = places_at 0 steps far in
    let more : List ℕ = places_at at run run_far in
    let joined : places_at 0 (steps ++ run) (far ++ run_far) ≡ there ++ places_at (last_of 0 there) run run_far =
    places_join 0 steps far run run_far stored.matched in
    let whole : places_at 0 (steps ++ run) (far ++ run_far) ≡ there ++ more =
    joined ∙ ap (λ (l : ℕ). there ++ places_at l run run_far) (sym stored.last_is) in
    let both : Ascend 0 (there ++ more) =
    ascend_join 0 there more stored.ascends (subst (λ (l : ℕ). Ascend l more) stored.last_is ascends) in
    let end : last_of 0 (there ++ more) ≡ last =
    last_after 0 there more ∙ ap (λ (l : ℕ). last_of l more) (sym stored.last_is) ∙ sym is in
    record {
      stored = record {
        matched =
            omega (
              arith,
              stored.matched,
              even,
              length-append far run_far,
              sum_by-append (λ (s : ℕ). cond (s == FAR) 1 0) steps run,
            );
        small = subst AllSmall (sym whole) (small_by_last 0 (there ++ more) both (omega (arith, end, fits)));
        last_is = sym (ap (last_of 0) whole ∙ end);
        ascends = subst (Ascend 0) (sym whole) both;
      };
      places = joined;
    }

-- and a run that is moved with the place before it
pub record IsMovedAfter (steps far run run_far : List ℕ) (old new at last : ℕ) : Type 0 where
  pub stored : StepsAreStored (steps ++ run) (far ++ map (moved old new) run_far) last
  pub places : places_at 0 (steps ++ run) (far ++ map (moved old new) run_far) ≡ places_at 0 steps far
      ++ map (moved old new) (places_at at run run_far)

pub moved_after : (steps far run run_far : List ℕ) (old new before at last end : ℕ) → StepsAreStored steps far before
    → before ≡ moved old new at → old ≤ at → length run_far ≡ fars run → Ascend at (places_at at run run_far)
    → last ≡ last_of at (places_at at run run_far) → end ≡ moved old new last → end < 2 ^ 64
    → IsMovedAfter steps far run run_far old new at end
moved_after steps far run run_far old new before at last end stored joins after even ascends is moves fits =
    let f : ℕ → ℕ = moved old new in
    let places : List ℕ = places_at at run run_far in
    let same : places_at before run (map f run_far) ≡ map f places =
    ap (λ (l : ℕ). places_at l run (map f run_far)) joins ∙ all_moved old new at run run_far after ascends in
    let up : Ascend before (map f places) =
    subst (λ (l : ℕ). Ascend l (map f places)) (sym joins) (ascend_moved old new at places after ascends) in
    let to : end ≡ last_of before (map f places) =
    moves ∙ ap f is ∙ sym (ap (λ (l : ℕ). last_of l (map f places)) joins ∙ last_moved old new at places) in
    let done : IsAfter steps far run (map f run_far) end =
    run_after steps far run (map f run_far) before end stored (length-map run_far f ∙ even)
    (subst (Ascend before) (sym same) up) (to ∙ sym (ap (last_of before) same)) fits in
    record {
      stored = done.stored;
      places =
          done.places ∙ ap (λ (l : ℕ). places_at 0 steps far ++ places_at l run (map f run_far)) (sym stored.last_is)
          ∙ ap (λ (ps : List ℕ). places_at 0 steps far ++ ps) same;
    }
