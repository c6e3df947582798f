use Rattle.std.proofs.Common.{List, ℕ, length, sym, subst}
use Rattle.keep_syntax_store.specs.declared.starts.Milestone.{Milestone}
use Rattle.keep_syntax_store.specs.Starts.{AreStarts, CanGoOn, IsMilestone}
use Rattle.keep_syntax_store.proofs.BulkMilestoneLemmas.{end_is}
use Rattle.keep_syntax_store.proofs.MilestoneLaws.{milestone_cuts}
use Rattle.keep_syntax_store.proofs.starts.milestone_to.Goals as goal

-- the steps after a milestone tell of places
can : (steps far : List ℕ) (last : ℕ) (all : List Milestone) (m : Milestone) → AreStarts steps far last all
    → IsMilestone steps far m → CanGoOn steps far m
can steps far last all m are is = (milestone_cuts steps far m are.stored.matched are.stored.small is).can

pub milestone_after-requires-clause-known : goal.milestone_after-requires-clause-known
milestone_after-requires-clause-known c = c.milestone_at-known.ensures.is _ _ c.requires.stored.known

pub milestone_after-requires-clause-can : goal.milestone_after-requires-clause-can
milestone_after-requires-clause-can c =
    can c.args.steps.now c.args.far.now c.args.last c.args.milestones.now c.milestone_at-known.result c.requires.stored
    (c.milestone_at-known.ensures.is _ _ c.requires.stored.known)

pub milestone_after-requires-else-known-number-clause-known :
    goal.milestone_after-requires-else-known-number-clause-known
milestone_after-requires-else-known-number-clause-known c = c.milestone_at.ensures.is _ _ tt

pub milestone_after-requires-else-known-number-clause-can :
    goal.milestone_after-requires-else-known-number-clause-can
milestone_after-requires-else-known-number-clause-can c =
    can c.args.steps.now c.args.far.now c.args.last c.args.milestones.now c.milestone_at.result c.requires.stored
    (c.milestone_at.ensures.is _ _ tt)

pub returns-then-number-steps-clause-is : goal.returns-then-number-steps-clause-is
returns-then-number-steps-clause-is c =
    let steps = c.args.steps.now in
    let far = c.args.far.now in
    subst (λ (n : ℕ). IsMilestone steps far (record { steps = n; far = length far; place = c.args.last }))
    (sym c.if-number-steps.true) (end_is steps far c.args.last c.requires.stored.stored)
