use Rattle.std.proofs.Common.{List, ℕ, ◌++◌, map, sym, ap, ◌∙◌, subst, refl, arith}
use Rattle.keep_syntax_store.specs.Left.{places_left}
use Rattle.keep_syntax_store.specs.Lifted.{moved}
use Rattle.keep_syntax_store.specs.Starts.{StepsAreStored, last_of, places_at}
use Rattle.keep_syntax_store.proofs.MilestoneLaws.{IsMovedAfter, milestones_stay, moved_after}
use Rattle.keep_syntax_store.proofs.starts.Starts.push_run.Goals as goal

after : (c : goal.After-self-1)
    → IsMovedAfter c.self.inside.steps.items c.self.inside.far.items c.args.run.now.steps.now c.args.run.now.far.now
    c.args.old c.args.new c.args.run.now.at c.in-Some.last
after c =
    let old = c.self.inside in
    let run = c.args.run.now in
    let stored = c.self.invariant.stored in
    moved_after old.steps.items old.far.items run.steps.now run.far.now c.args.old c.args.new old.last run.at
    c.args.last c.in-Some.last stored (stored.last_is ∙ ap (last_of 0) c.self.view_is ∙ c.requires.joins)
    c.requires.after run.matched
    c.requires.ascend c.requires.last c.in-Some.ensures.1 (omega (arith, c.in-Some.ensures.0.fits, c.in-Some.ensures.1))

pub invariant_of-self-2 : goal.invariant_of-self-2
invariant_of-self-2 c =
    let old = c.self.inside in
    let run = c.args.run.now in
    let new = c.push_steps.new in
    let is = c.in_ok-push_steps.ensures in
    let f = moved c.args.old c.args.new in
    record {
      stored = subst (λ (s : List ℕ). StepsAreStored s new.far.items c.in-Some.last) (sym is.ok)
          (subst (λ (g : List ℕ). StepsAreStored (old.steps.items ++ run.steps.now) g c.in-Some.last) (sym is.far)
          (after c).stored);
      known = milestones_stay old.steps.items old.far.items run.steps.now (map f run.far.now) new.steps.items
          new.far.items old.milestones.items old.milestones.items c.self.invariant.stored.matched is.ok is.far refl
          c.self.invariant.known;
    }

pub returns : goal.returns
returns c =
    let old = c.self.inside in
    let is = c.in_ok-push_steps.ensures in
    ap (λ (s : List ℕ). places_at 0 s c.push_steps.new.far.items) is.ok
    ∙ ap (λ (g : List ℕ). places_at 0 (old.steps.items ++ c.args.run.now.steps.now) g) is.far
    ∙ (after c).places
    ∙ ap (λ (ps : List ℕ). ps ++ map (moved c.args.old c.args.new) (places_left c.args.run.now)) c.self.view_is
