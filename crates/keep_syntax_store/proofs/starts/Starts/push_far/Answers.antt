use Rattle.std.proofs.Common.{refl, ap, ◌∙◌, ◌∷◌, ◌++◌, [], arith}
use Rattle.keep_syntax_store.specs.declared.starts.TheConstants.{FAR}
use Rattle.keep_syntax_store.proofs.StartLaws.{IsMore, far_more, stored_more}
use Rattle.keep_syntax_store.proofs.MilestoneLaws.{milestones_stay}
use Rattle.keep_syntax_store.proofs.starts.Starts.push_far.Goals as goal

-- one place more is stored
more : (c : goal.After-self-1)
    → IsMore c.self.inside.steps.items c.self.inside.far.items c.push.new.self.items c.push-2.new.self.items
    c.args.place
more c =
    let old = c.self.inside in
    far_more old.steps.items old.far.items c.push.new.self.items c.push-2.new.self.items old.last FAR c.args.place
    c.self.invariant.stored refl c.in_ok-push.ensures.items c.in_default.ensures.items

pub invariant_of-self-2 : goal.invariant_of-self-2
invariant_of-self-2 c =
    let old = c.self.inside in
    record {
      stored =
          stored_more old.steps.items old.far.items c.push.new.self.items c.push-2.new.self.items old.last c.args.place
          c.self.invariant.stored (more c) (omega (arith, c.if-place-self.false)) (omega (arith, c.ranges.place.fits));
      known = milestones_stay old.steps.items old.far.items (FAR ∷ []) (c.args.place ∷ []) c.push.new.self.items
          c.push-2.new.self.items old.milestones.items old.milestones.items c.self.invariant.stored.matched
          c.in_ok-push.ensures.items c.in_default.ensures.items refl c.self.invariant.known;
    }

pub returns-clause-ok : goal.returns-clause-ok
returns-clause-ok c = (more c).more ∙ ap (λ places. places ++ c.args.place ∷ []) c.self.view_is
