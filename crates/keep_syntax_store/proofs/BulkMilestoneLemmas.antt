-- Places from one milestone to another, stored after others by one copy: the milestones between them are stored too.
--
-- The steps from one milestone to a later one lead on from its place, and so do those to each milestone between them.
-- Stored after others, with the place before them moved, they lead to the moved places: all grows by what was stored
-- before. So nothing is counted anew.
--
-- Theorems: `between`: what is known of the steps from one milestone to another; `moved_further`: where they are stored
-- after others, each milestone between them is one.
use Rattle.std.proofs.Common.{◌≡◌, ℕ, zero, suc, ◌+◌, ◌-◌, ◌<◌, ◌≤◌, ◌==◌, ◌^◌, cond, List, [], ◌∷◌, ◌++◌, length}
use Rattle.std.proofs.Common.{get_or, map, take, drop, sym, ap, ◌∙◌, subst, arith}
use Rattle.std.specs.List.{AllByRecursion}
use Rattle.std.proofs.Math.Seq.{take-append-add}
use Rattle.std.proofs.lemmas.List.{length-append, length-drop, length-take-le, take-append-drop, take-map, take-take}
use Rattle.std.proofs.lemmas.List.{take_all}
use Rattle.std.proofs.lemmas.List.Sums.{sum_by-append}
use Rattle.keep_syntax_store.specs.declared.starts.TheConstants.{FAR}
use Rattle.keep_syntax_store.specs.declared.starts.Milestone.{Milestone}
use Rattle.keep_syntax_store.specs.Starts.{places_at, last_of, Ascend, fars, StepsAreStored, IsMilestone, AreStarts}
use Rattle.keep_syntax_store.specs.Starts.{CanGoOn, CanGoTo, IsFurther, IsWithin, CanMoveOn, moved_on}
use Rattle.keep_syntax_store.specs.declared.starts.Places.{Places}
use Rattle.keep_syntax_store.specs.Left.{AreBetween, places_left}
use Rattle.keep_syntax_store.specs.Lifted.{moved}
use Rattle.keep_syntax_store.proofs.StartLaws.{places_join}
use Rattle.keep_syntax_store.proofs.AscendLaws.{ascend_drop, ascend_last, ascend_take, last_moved}
use Rattle.keep_syntax_store.proofs.RunLaws.{last_after}
use Rattle.keep_syntax_store.proofs.MilestoneLaws.{AreFirst, IsCut, IsMovedAfter, all_moved, are_first, fars_within}
use Rattle.keep_syntax_store.proofs.MilestoneLaws.{milestone_cuts, milestones_more, moved_after, take_places}
use Rattle.keep_syntax_store.proofs.PastLaws.{take_sum}
use Rattle.keep_syntax_store.proofs.BeforeLaws.{all_append, all_back, all_prefix}

fars_append : (steps more : List ℕ) → fars (steps ++ more) ≡ fars steps + fars more
fars_append steps more = sum_by-append (λ (s : ℕ). cond (s == FAR) 1 0) steps more

-- the first so many of a list, and those up to another number
split_at : (xs : List ℕ) (n m : ℕ) → n ≤ m → take m xs ≡ take n xs ++ take (m - n) (drop n xs)
split_at xs n m order =
    ap (λ (k : ℕ). take k xs) (let e : m ≡ n + (m - n) = omega (arith, order) in e) ∙ take_sum xs n (m - n)

all_so : {A : Type 0} (P Q : A → Type 0) → ((x : A) → P x → Q x) → (xs : List A) → AllByRecursion P xs
    → AllByRecursion Q xs
all_so P Q so [] all = tt
all_so P Q so (x ∷ xs) all = (so x all.0, all_so P Q so xs all.1)

pub all_at : {A : Type 0} (P : A → Type 0) (xs : List A) (i : ℕ) (d : A) → i < length xs → AllByRecursion P xs
    → P (get_or xs i d)
all_at P [] i d within all = absurd (omega (arith, within))
all_at P (x ∷ xs) zero d within all = all.0
all_at P (x ∷ xs) (suc i) d within all = all_at P xs i d (omega (arith, within)) all.1

-- what is known of all is known of those from one number to another
pub all_range : {A : Type 0} (P : A → Type 0) (xs : List A) (n m : ℕ) → AllByRecursion P xs
    → AllByRecursion P (take m (drop n xs))
all_range P xs n m all =
    let rest : AllByRecursion P (drop n xs) =
    all_back P (take n xs) (drop n xs) (subst (AllByRecursion P) (sym (take-append-drop n xs)) all) in
    all_prefix P (take m (drop n xs)) (drop m (drop n xs))
    (subst (AllByRecursion P) (sym (take-append-drop m (drop n xs))) rest)

-- ---- from one milestone to another

-- so many steps on from a milestone, with the far ones among them counted, is another
pub gone_on : (steps far : List ℕ) (a : Milestone) (n count place : ℕ) → IsMilestone steps far a → CanGoOn steps far a
    → a.steps + n ≤ length steps → count ≡ fars (take n (drop a.steps steps))
    → place ≡ last_of a.place (take n (places_at a.place (drop a.steps steps) (drop a.far far)))
    → IsMilestone steps far (record { steps = a.steps + n; far = a.far + count; place = place })
gone_on steps far a n count place is can within counted leads =
    let before : List ℕ = take a.steps steps in
    let run : List ℕ = take n (drop a.steps steps) in
    let before_far : List ℕ = take a.far far in
    let run_far : List ℕ = take count (drop a.far far) in
    let there : List ℕ = places_at 0 before before_far in
    let whole : take (a.steps + n) steps ≡ before ++ run = take_sum steps a.steps n in
    let whole_far : take (a.far + count) far ≡ before_far ++ run_far = take_sum far a.far count in
    let even : length before_far ≡ fars before = length-take-le a.far far can.far_within ∙ is.counted in
    record {
      within = within;
      counted = omega (arith, counted, is.counted, ap fars whole, fars_append before run);
      leads =
          leads
          ∙ ap (last_of a.place) (take_places a.place (drop a.steps steps) (drop a.far far) n
          ∙ ap (λ (k : ℕ). places_at a.place run (take k (drop a.far far))) (sym counted))
          ∙ ap (λ (at : ℕ). last_of at (places_at at run run_far)) is.leads
          ∙ sym (last_after 0 there (places_at (last_of 0 there) run run_far))
          ∙ ap (last_of 0) (sym (places_join 0 before before_far run run_far even))
          ∙ ap (λ (g : List ℕ). last_of 0 (places_at 0 (before ++ run) g)) (sym whole_far)
          ∙ ap (λ (s : List ℕ). last_of 0 (places_at 0 s (take (a.far + count) far))) (sym whole);
    }

-- all steps lead to the last place
pub end_is : (steps far : List ℕ) (last : ℕ) → StepsAreStored steps far last
    → IsMilestone steps far (record { steps = length steps; far = length far; place = last })
end_is steps far last stored =
    let all : take (length steps) steps ≡ steps = take_all (length steps) steps (omega arith) in
    let all_far : take (length far) far ≡ far = take_all (length far) far (omega arith) in
    record {
      within = omega arith;
      counted = stored.matched ∙ ap fars (sym all);
      leads = stored.last_is
          ∙ ap (λ (s : List ℕ). last_of 0 (places_at 0 s far)) (sym all)
          ∙ ap (λ (g : List ℕ). last_of 0 (places_at 0 (take (length steps) steps) g)) (sym all_far);
    }

pub record AreOn (steps far : List ℕ) (a b : Milestone) : Type 0 where
  pub ordered : a.far ≤ b.far
  pub within : b.far ≤ length far
  pub first : AreFirst a.place (drop a.steps steps) (drop a.far far) (b.steps - a.steps) (b.far - a.far)
  pub further : IsFurther a (drop a.steps steps) (drop a.far far) b

pub are_on : (steps far : List ℕ) (last : ℕ) (a b : Milestone) → StepsAreStored steps far last → IsMilestone steps far a
    → IsMilestone steps far b → a.steps ≤ b.steps → AreOn steps far a b
are_on steps far last a b stored is also order =
    let cut : IsCut steps far a = milestone_cuts steps far a stored.matched stored.small is in
    let before : List ℕ = take a.steps steps in
    let run : List ℕ = take (b.steps - a.steps) (drop a.steps steps) in
    let before_far : List ℕ = take a.far far in
    let there : List ℕ = places_at 0 before before_far in
    let whole : take b.steps steps ≡ before ++ run = split_at steps a.steps b.steps order in
    let counted : b.far ≡ a.far + fars run =
    omega (arith, also.counted, ap fars whole, fars_append before run, is.counted) in
    let ordered : a.far ≤ b.far = omega (arith, counted) in
    let run_far : List ℕ = take (b.far - a.far) (drop a.far far) in
    let whole_far : take b.far far ≡ before_far ++ run_far = split_at far a.far b.far ordered in
    let even : length before_far ≡ fars before = length-take-le a.far far cut.can.far_within ∙ is.counted in
    record {
      ordered = ordered;
      within = omega (arith, also.counted, stored.matched, fars_within steps b.steps);
      first = are_first a.place (drop a.steps steps) (drop a.far far) (b.steps - a.steps) (b.far - a.far)
          (omega (arith, counted)) cut.can.matched cut.can.small;
      further = record {
        counted = counted;
        leads =
            also.leads
            ∙ ap (λ (s : List ℕ). last_of 0 (places_at 0 s (take b.far far))) whole
            ∙ ap (λ (g : List ℕ). last_of 0 (places_at 0 (before ++ run) g)) whole_far
            ∙ ap (last_of 0) (places_join 0 before before_far run run_far even)
            ∙ last_after 0 there (places_at (last_of 0 there) run run_far)
            ∙ ap (λ (place : ℕ). last_of place (places_at place run run_far)) (sym is.leads);
      };
    }

pub can_go_to : (steps far : List ℕ) (last : ℕ) (a b : Milestone) → StepsAreStored steps far last
    → IsMilestone steps far a → IsMilestone steps far b → a.steps ≤ b.steps → CanGoTo steps far a b
can_go_to steps far last a b stored is also order =
    let on : AreOn steps far a b = are_on steps far last a b stored is also order in
    record {
      order = order;
      within = also.within;
      far_order = on.ordered;
      far_within = on.within;
      matched = on.first.matched;
      small = on.first.small;
    }

-- a milestone between two others, by the steps between them
further : (steps far : List ℕ) (last : ℕ) (a b m : Milestone) → StepsAreStored steps far last → IsMilestone steps far a
    → IsMilestone steps far b → IsMilestone steps far m
    → IsWithin a b (take (b.steps - a.steps) (drop a.steps steps)) (take (b.far - a.far) (drop a.far far)) m
further steps far last a b m stored is also here low high =
    let on : AreOn steps far a m = are_on steps far last a m stored is here low in
    let left : AreOn steps far m b = are_on steps far last m b stored here also high in
    let same : take (m.steps - a.steps) (take (b.steps - a.steps) (drop a.steps steps))
    ≡ take (m.steps - a.steps) (drop a.steps steps) =
    take-take (m.steps - a.steps) (b.steps - a.steps) (drop a.steps steps) (omega (arith, high)) in
    let same_far : take (m.far - a.far) (take (b.far - a.far) (drop a.far far))
    ≡ take (m.far - a.far) (drop a.far far) =
    take-take (m.far - a.far) (b.far - a.far) (drop a.far far) (omega (arith, left.ordered)) in
    record {
      counted = on.further.counted ∙ ap (λ (s : List ℕ). a.far + fars s) (sym same);
      leads = on.further.leads
          ∙ sym (ap (λ (s : List ℕ).
          last_of a.place (places_at a.place s (take (m.far - a.far) (take (b.far - a.far) (drop a.far far))))) same
          ∙ ap (λ (g : List ℕ). last_of a.place (places_at a.place (take (m.steps - a.steps) (drop a.steps steps)) g))
          same_far);
    }

are_left : (p : Places) (at : ℕ) (run run_far : List ℕ) → p.at ≡ at → p.steps.now ≡ run → p.far.now ≡ run_far
    → places_left p ≡ places_at at run run_far
are_left p at run run_far begins run_is run_far_is =
    ap (λ (place : ℕ). places_at place p.steps.now p.far.now) begins
    ∙ ap (λ (s : List ℕ). places_at at s p.far.now) run_is ∙ ap (places_at at run) run_far_is

pub between : (steps far : List ℕ) (last : ℕ) (a b : Milestone) (ms : List Milestone) (p : Places)
    → StepsAreStored steps far last → IsMilestone steps far a → IsMilestone steps far b → a.steps ≤ b.steps
    → AllByRecursion (IsMilestone steps far) ms
    → p.at ≡ a.place → p.steps.now ≡ take (b.steps - a.steps) (drop a.steps steps)
    → p.far.now ≡ take (b.far - a.far) (drop a.far far) → AreBetween a b p ms
between steps far last a b ms p stored is also order all begins run_is run_far_is =
    let on : AreOn steps far a b = are_on steps far last a b stored is also order in
    let cut : IsCut steps far a = milestone_cuts steps far a stored.matched stored.small is in
    let run : List ℕ = take (b.steps - a.steps) (drop a.steps steps) in
    let run_far : List ℕ = take (b.far - a.far) (drop a.far far) in
    let places : List ℕ = places_at 0 steps far in
    let left : places_left p ≡ places_at a.place run run_far =
    are_left p a.place run run_far begins run_is run_far_is in
    let are : places_left p ≡ take (b.steps - a.steps) (drop a.steps places) =
    left ∙ on.first.places ∙ ap (take (b.steps - a.steps)) cut.left in
    record {
      begins = begins;
      long = omega (
        arith,
        ap length run_is,
        length-take-le (b.steps - a.steps) (drop a.steps steps) (omega (arith, length-drop a.steps steps, also.within)),
        order,
      );
      leads = on.further.leads ∙ ap (last_of a.place) (sym left);
      ascends = subst (Ascend a.place) (sym are)
          (ascend_take a.place (drop a.steps places) (b.steps - a.steps)
          (subst (λ (low : ℕ). Ascend low (drop a.steps places)) (sym cut.last)
          (ascend_drop 0 places a.steps stored.ascends)));
      known = subst (λ (s : List ℕ). AllByRecursion (IsWithin a b s p.far.now) ms) (sym run_is)
          (subst (λ (g : List ℕ). AllByRecursion (IsWithin a b run g) ms) (sym run_far_is)
          (all_so (IsMilestone steps far) (IsWithin a b run run_far)
          (λ m here. further steps far last a b m stored is also here) ms all));
    }

-- the places of such steps are those from one number to another
pub left_between : (steps far : List ℕ) (last : ℕ) (a b : Milestone) (p : Places) → StepsAreStored steps far last
    → IsMilestone steps far a → IsMilestone steps far b → a.steps ≤ b.steps
    → p.at ≡ a.place → p.steps.now ≡ take (b.steps - a.steps) (drop a.steps steps)
    → p.far.now ≡ take (b.far - a.far) (drop a.far far)
    → places_left p ≡ take (b.steps - a.steps) (drop a.steps (places_at 0 steps far))
left_between steps far last a b p stored is also order begins run_is run_far_is =
    let on : AreOn steps far a b = are_on steps far last a b stored is also order in
    are_left p a.place (take (b.steps - a.steps) (drop a.steps steps)) (take (b.far - a.far) (drop a.far far)) begins
    run_is run_far_is ∙ on.first.places
    ∙ ap (take (b.steps - a.steps)) (milestone_cuts steps far a stored.matched stored.small is).left

-- ---- stored after others

-- where the steps after `low` are stored after others, each milestone between is one
moved_further : (steps far run run_far : List ℕ) (old new : ℕ) (low at m : Milestone)
    → StepsAreStored steps far at.place → at.steps ≡ length steps → at.far ≡ length far
    → at.place ≡ moved old new low.place → old ≤ low.place
    → Ascend low.place (places_at low.place run run_far) → low.steps ≤ m.steps → m.steps ≤ low.steps + length run
    → IsFurther low run run_far m → IsMilestone (steps ++ run) (far ++ map (moved old new) run_far) (moved_on low at m)
moved_further steps far run run_far old new low at m stored counts counts_far joins after ascends order within is =
    let f : ℕ → ℕ = moved old new in
    let k : ℕ = m.steps - low.steps in
    let c : ℕ = m.far - low.far in
    let first : List ℕ = take k run in
    let first_far : List ℕ = take c run_far in
    let counted : c ≡ fars first = omega (arith, is.counted) in
    let places : List ℕ = places_at low.place first first_far in
    let are : places ≡ take k (places_at low.place run run_far) =
    ap (λ (n : ℕ). places_at low.place first (take n run_far)) counted ∙ sym (take_places low.place run run_far k) in
    let up : Ascend low.place places =
    subst (Ascend low.place) (sym are) (ascend_take low.place (places_at low.place run run_far) k ascends) in
    let steps_are : take (moved low.steps at.steps m.steps) (steps ++ run) ≡ steps ++ first =
    ap (λ (n : ℕ). take n (steps ++ run)) (let e : k + at.steps ≡ length steps + k = omega (arith, counts) in e)
    ∙ take-append-add steps run k in
    let far_are : take (moved low.far at.far m.far) (far ++ map f run_far) ≡ far ++ map f first_far =
    ap (λ (n : ℕ). take n (far ++ map f run_far)) (let e : c + at.far ≡ length far + c = omega (arith, counts_far) in e)
    ∙ take-append-add far (map f run_far) c ∙ ap (λ (g : List ℕ). far ++ g) (take-map f c run_far) in
    let there : List ℕ = places_at 0 steps far in
    let place_is : moved low.place at.place m.place ≡ f m.place =
    omega (arith, joins, after, is.leads, ascend_last low.place places up) in
    record {
      within = omega (arith, counts, within, length-append steps run);
      counted = omega (arith, counts_far, stored.matched, counted, ap fars steps_are, fars_append steps first);
      leads =
          place_is
          ∙ ap f is.leads
          ∙ sym (
          ap (λ (s : List ℕ). last_of 0 (places_at 0 s (take (moved low.far at.far m.far) (far ++ map f run_far))))
          steps_are
          ∙ ap (λ (g : List ℕ). last_of 0 (places_at 0 (steps ++ first) g)) far_are
          ∙ ap (last_of 0) (places_join 0 steps far first (map f first_far) stored.matched)
          ∙ last_after 0 there (places_at (last_of 0 there) first (map f first_far))
          ∙ ap (λ (place : ℕ). last_of place (places_at place first (map f first_far))) (sym stored.last_is ∙ joins)
          ∙ ap (last_of (f low.place)) (all_moved old new low.place first first_far after up)
          ∙ last_moved old new low.place places
          );
    }

pub all_moved_on : (steps far : List ℕ) (old new : ℕ) (low high at : Milestone) (p : Places) (ms : List Milestone)
    → StepsAreStored steps far at.place → at.steps ≡ length steps → at.far ≡ length far
    → at.place ≡ moved old new low.place → old ≤ low.place
    → AreBetween low high p ms
    → AllByRecursion (CanMoveOn low high at (steps ++ p.steps.now) (far ++ map (moved old new) p.far.now)) ms
all_moved_on steps far old new low high at p ms stored counts counts_far joins after are =
    let run : List ℕ = p.steps.now in
    let run_far : List ℕ = p.far.now in
    let ascends : Ascend low.place (places_at low.place run run_far) =
    subst (λ (place : ℕ). Ascend low.place (places_at place run run_far)) are.begins are.ascends in
    all_so (IsWithin low high run run_far) (CanMoveOn low high at (steps ++ run) (far ++ map (moved old new) run_far))
    (λ m is order within.
    moved_further steps far run run_far old new low at m stored counts counts_far joins after ascends order
    (omega (arith, within, are.long)) (is order within)) ms are.known

-- the places from one milestone to another, moved with the place before them, are stored after others
pub between_after : (steps far : List ℕ) (old new before end : ℕ) (low high : Milestone) (p : Places)
    (ms : List Milestone) → StepsAreStored steps far before → before ≡ moved old new low.place → old ≤ low.place
    → AreBetween low high p ms → end ≡ moved old new high.place → end < 2 ^ 64
    → IsMovedAfter steps far p.steps.now p.far.now old new p.at end
between_after steps far old new before end low high p ms stored joins after are moves fits =
    moved_after steps far p.steps.now p.far.now old new before p.at high.place end stored
    (joins ∙ ap (moved old new) (sym are.begins)) (omega (arith, after, are.begins)) p.matched
    (subst (λ (place : ℕ). Ascend place (places_left p)) (sym are.begins) are.ascends)
    (are.leads ∙ ap (λ (place : ℕ). last_of place (places_left p)) (sym are.begins)) moves fits

pub starts_after : (steps far new_steps new_far : List ℕ) (old new last end : ℕ) (ms fresh new_ms : List Milestone)
    (p : Places) → AreStarts steps far last ms → IsMovedAfter steps far p.steps.now p.far.now old new p.at end
    → new_steps ≡ steps ++ p.steps.now → new_far ≡ far ++ map (moved old new) p.far.now → new_ms ≡ ms ++ fresh
    → AllByRecursion (IsMilestone (steps ++ p.steps.now) (far ++ map (moved old new) p.far.now)) fresh
    → AreStarts new_steps new_far end new_ms
starts_after steps far new_steps new_far old new last end ms fresh new_ms p are done is is_far also known =
    let run : List ℕ = p.steps.now in
    let run_far : List ℕ = map (moved old new) p.far.now in
    let all : AllByRecursion (IsMilestone (steps ++ run) (far ++ run_far)) (ms ++ fresh) =
    all_append (IsMilestone (steps ++ run) (far ++ run_far)) ms fresh
    (milestones_more steps far run run_far ms are.stored.matched are.known) known in
    let there : AreStarts (steps ++ run) (far ++ run_far) end (ms ++ fresh) =
    record { stored = done.stored; known = all } in
    subst (λ (s : List ℕ). AreStarts s new_far end new_ms) (sym is)
    (subst (λ (g : List ℕ). AreStarts (steps ++ run) g end new_ms) (sym is_far)
    (subst (AreStarts (steps ++ run) (far ++ run_far) end) (sym also) there))
