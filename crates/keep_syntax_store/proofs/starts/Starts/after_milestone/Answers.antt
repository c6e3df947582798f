use Rattle.std.proofs.Common.{◌≡◌, List, ℕ, length, drop, take, sym, ap, ◌∙◌, subst, arith}
use Rattle.std.specs.List.{AllByRecursion}
use Rattle.keep_syntax_store.specs.declared.starts.Milestone.{Milestone}
use Rattle.keep_syntax_store.specs.Starts.{AreStarts, CanGoOn, IsMilestone, last_of, places_at}
use Rattle.keep_syntax_store.proofs.StartLaws.{places_all}
use Rattle.keep_syntax_store.proofs.MilestoneLaws.{IsCut, milestone_cuts}
use Rattle.keep_syntax_store.proofs.starts.Starts.after_milestone.Goals as goal

-- what is known at a milestone of these places
cut : (steps far : List ℕ) (last : ℕ) (all given : List Milestone) (m : Milestone) → AreStarts steps far last all
    → given ≡ all → ((s f : List ℕ) → AllByRecursion (IsMilestone s f) given → IsMilestone s f m) → IsCut steps far m
cut steps far last all given m are same known =
    milestone_cuts steps far m are.stored.matched are.stored.small
    (known steps far (subst (AllByRecursion (IsMilestone steps far)) (sym same) are.known))

pub after-left-requires : goal.after-left-requires
after-left-requires c =
    let s = c.self.inside in
    let m = c.milestone_at-milestone.result in
    let is =
    cut s.steps.items s.far.items s.last s.milestones.items c.as_slice.result.now m c.self.invariant
    c.as_slice.ensures.value c.milestone_at-milestone.ensures.is in
    subst (λ (steps : List ℕ). CanGoOn steps c.as_slice-3.result.now m) (sym c.as_slice-2.ensures.value)
    (subst (λ (far : List ℕ). CanGoOn s.steps.items far m) (sym c.as_slice-3.ensures.value) is.can)

pub returns-clause-past : goal.returns-clause-past
returns-clause-past c =
    let s = c.self.inside in
    let m = c.milestone_at-milestone.result in
    let is =
    cut s.steps.items s.far.items s.last s.milestones.items c.as_slice.result.now m c.self.invariant
    c.as_slice.ensures.value c.milestone_at-milestone.ensures.is in
    record {
      left = c.after-left.ensures.left
          ∙ ap (λ (steps : List ℕ). places_at m.place (drop m.steps steps) (drop m.far c.as_slice-3.result.now))
          c.as_slice-2.ensures.value
          ∙ ap (λ (far : List ℕ). places_at m.place (drop m.steps s.steps.items) (drop m.far far))
          c.as_slice-3.ensures.value ∙ is.left ∙ ap (drop m.steps) c.self.view_is;
      last = c.after-left.ensures.at ∙ is.last ∙ ap (λ (ps : List ℕ). last_of 0 (take m.steps ps)) c.self.view_is;
    }

pub returns-clause-within : goal.returns-clause-within
returns-clause-within c =
    let s = c.self.inside in
    let m = c.milestone_at-milestone.result in
    let is =
    cut s.steps.items s.far.items s.last s.milestones.items c.as_slice.result.now m c.self.invariant
    c.as_slice.ensures.value c.milestone_at-milestone.ensures.is in
    omega (
      arith,
      is.can.within,
      places_all 0 s.steps.items s.far.items c.self.invariant.stored.matched,
      ap length c.self.view_is,
    )
