use Rattle.std.proofs.Common.{◌≡◌, ◌≤◌, ◌-◌, List, ℕ, length, take, drop, sym, ap, ◌∙◌, subst, arith}
use Rattle.std.specs.Prelude.{slice_range}
use Rattle.std.specs.List.{AllByRecursion}
use Rattle.keep_syntax_store.specs.declared.starts.Milestone.{Milestone}
use Rattle.keep_syntax_store.specs.Starts.{CanGoTo, IsMilestone, StepsAreStored, last_of, places_at}
use Rattle.keep_syntax_store.proofs.BulkMilestoneLemmas.{all_range, between, can_go_to, left_between}
use Rattle.keep_syntax_store.proofs.MilestoneLaws.{milestone_cuts}
use Rattle.keep_syntax_store.proofs.StartLaws.{places_all}
use Rattle.keep_syntax_store.proofs.starts.Starts.between.Goals as goal

-- a milestone of the lists that were read is one of those that are stored
stored_one : (steps far some some_far : List ℕ) (m : Milestone) → some ≡ steps → some_far ≡ far
    → IsMilestone some some_far m → IsMilestone steps far m
stored_one steps far some some_far m is is_far one =
    subst (λ (s : List ℕ). IsMilestone s far m) is (subst (λ (g : List ℕ). IsMilestone some g m) is_far one)

-- there are as many steps as places
as_many : (steps far some places : List ℕ) (last : ℕ) → StepsAreStored steps far last → some ≡ steps
    → places_at 0 steps far ≡ places → length places ≡ length some
as_many steps far some places last stored is view =
    sym (ap length view) ∙ places_all 0 steps far stored.matched ∙ sym (ap length is)

pub milestone_to-low-requires-clause-within : goal.milestone_to-low-requires-clause-within
milestone_to-low-requires-clause-within c =
    let s = c.self.inside in
    omega (
      arith,
      c.requires.0,
      c.requires.1,
      as_many s.steps.items s.far.items c.as_slice-steps.result.now c.args.self.now s.last c.self.invariant.stored
          c.as_slice-steps.ensures.value c.self.view_is,
    )

pub milestone_to-high-requires-clause-within : goal.milestone_to-high-requires-clause-within
milestone_to-high-requires-clause-within c =
    let s = c.self.inside in
    omega (
      arith,
      c.requires.1,
      as_many s.steps.items s.far.items c.as_slice-steps.result.now c.args.self.now s.last c.self.invariant.stored
          c.as_slice-steps.ensures.value c.self.view_is,
    )

pub between-requires : goal.between-requires
between-requires c =
    let s = c.self.inside in
    let low = c.milestone_to-low in
    let high = c.milestone_to-high in
    let steps = s.steps.items in
    let far = s.far.items in
    let is = c.as_slice-steps.ensures.value in
    let is_far = c.as_slice-far.ensures.value in
    let order : low.result.steps ≤ high.result.steps = omega (
      arith,
      low.ensures.steps,
      high.ensures.steps,
      c.requires.0,
    ) in
    subst (λ (xs : List ℕ). CanGoTo xs c.as_slice-far.result.now low.result high.result) (sym is)
    (subst (λ (xs : List ℕ). CanGoTo steps xs low.result high.result) (sym is_far)
    (can_go_to steps far s.last low.result high.result c.self.invariant.stored
    (stored_one steps far _ _ low.result is is_far low.ensures.is)
    (stored_one steps far _ _ high.result is is_far high.ensures.is) order))

pub returns-clause-are : goal.returns-clause-are
returns-clause-are c =
    let s = c.self.inside in
    let low = c.milestone_to-low in
    let high = c.milestone_to-high in
    let steps = s.steps.items in
    let far = s.far.items in
    let is = c.as_slice-steps.ensures.value in
    let is_far = c.as_slice-far.ensures.value in
    let order : low.result.steps ≤ high.result.steps = omega (
      arith,
      low.ensures.steps,
      high.ensures.steps,
      c.requires.0,
    ) in
    let n = c.partition_point-first.result in
    let given = c.as_slice-milestones.result.now in
    let all : AllByRecursion (IsMilestone steps far) given =
    subst (AllByRecursion (IsMilestone steps far)) (sym c.as_slice-milestones.ensures.value) c.self.invariant.known in
    let places = c.between.ensures in
    between steps far s.last low.result high.result (take (c.max.result - n) (drop n given)) c.between.result
    c.self.invariant.stored (stored_one steps far _ _ low.result is is_far low.ensures.is)
    (stored_one steps far _ _ high.result is is_far high.ensures.is) order
    (all_range (IsMilestone steps far) given n (c.max.result - n) all) places.at
    (places.steps ∙ ap (λ (xs : List ℕ). slice_range xs low.result.steps high.result.steps) is)
    (places.far ∙ ap (λ (xs : List ℕ). slice_range xs low.result.far high.result.far) is_far)

pub returns-clause-low : goal.returns-clause-low
returns-clause-low c =
    let s = c.self.inside in
    let low = c.milestone_to-low in
    let stored = c.self.invariant.stored in
    (milestone_cuts s.steps.items s.far.items low.result stored.matched stored.small
    (stored_one s.steps.items s.far.items _ _ low.result c.as_slice-steps.ensures.value c.as_slice-far.ensures.value
    low.ensures.is)).last
    ∙ ap (λ (n : ℕ). last_of 0 (take n (places_at 0 s.steps.items s.far.items))) low.ensures.steps
    ∙ ap (λ (ps : List ℕ). last_of 0 (take c.args.from ps)) c.self.view_is

pub returns-clause-places : goal.returns-clause-places
returns-clause-places c =
    let s = c.self.inside in
    let low = c.milestone_to-low in
    let high = c.milestone_to-high in
    let steps = s.steps.items in
    let far = s.far.items in
    let is = c.as_slice-steps.ensures.value in
    let is_far = c.as_slice-far.ensures.value in
    let order : low.result.steps ≤ high.result.steps = omega (
      arith,
      low.ensures.steps,
      high.ensures.steps,
      c.requires.0,
    ) in
    let places = c.between.ensures in
    left_between steps far s.last low.result high.result c.between.result c.self.invariant.stored
    (stored_one steps far _ _ low.result is is_far low.ensures.is)
    (stored_one steps far _ _ high.result is is_far high.ensures.is) order places.at
    (places.steps ∙ ap (λ (xs : List ℕ). slice_range xs low.result.steps high.result.steps) is)
    (places.far ∙ ap (λ (xs : List ℕ). slice_range xs low.result.far high.result.far) is_far)
    ∙ ap (λ (n : ℕ). slice_range (places_at 0 steps far) n high.result.steps) low.ensures.steps
    ∙ ap (slice_range (places_at 0 steps far) c.args.from) high.ensures.steps
    ∙ ap (λ (ps : List ℕ). slice_range ps c.args.from c.args.to) c.self.view_is
