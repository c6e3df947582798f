use Rattle.std.proofs.Common.{◌≡◌, ◌-◌, ◌<◌, refl, sym, ap, ◌∙◌, ◌∷◌, ◌++◌, [], arith}
use Rattle.std.proofs.lemmas.List.{append-nil}
use Rattle.keep_syntax_store.specs.declared.starts.TheConstants.{FAR}
use Rattle.keep_syntax_store.proofs.StartLaws.{IsMore, near_more, stored_more}
use Rattle.keep_syntax_store.proofs.MilestoneLaws.{milestones_stay}
use Rattle.keep_syntax_store.proofs.starts.Starts.push.Goals as goal

-- one step more is stored
stored : (c : goal.After-self-1)
    → c.push_reserved.new.self.items ≡ c.self.inside.steps.items ++ (c.args.at - c.self.inside.last) ∷ []
stored c =
    c.push_reserved.ensures.items
    ∙ ap (λ steps. steps ++ (c.args.at - c.self.inside.last) ∷ []) c.in_ok-reserve.ensures.items

-- one place more is stored
more : (c : goal.After-self-1)
    → IsMore c.self.inside.steps.items c.self.inside.far.items c.push_reserved.new.self.items c.self.inside.far.items
    c.args.at
more c =
    let old = c.self.inside in
    let near : c.args.at - old.last < FAR = omega (arith, c.if-at-last-2.false) in
    near_more old.steps.items old.far.items c.push_reserved.new.self.items old.far.items old.last (c.args.at - old.last)
    c.args.at c.self.invariant.stored (λ is. omega (arith, near, is)) (omega (arith, c.if-at-last.false)) (stored c)
    refl

pub invariant_of-self-2 : goal.invariant_of-self-2
invariant_of-self-2 c =
    let old = c.self.inside in
    record {
      stored =
          stored_more old.steps.items old.far.items c.push_reserved.new.self.items old.far.items old.last c.args.at
          c.self.invariant.stored (more c) (omega (arith, c.if-at-last.false)) (omega (arith, c.ranges.at.fits));
      known = milestones_stay old.steps.items old.far.items ((c.args.at - old.last) ∷ []) []
          c.push_reserved.new.self.items old.far.items old.milestones.items old.milestones.items
          c.self.invariant.stored.matched (stored c) (sym (append-nil old.far.items)) refl c.self.invariant.known;
    }

pub returns-clause-ok : goal.returns-clause-ok
returns-clause-ok c = (more c).more ∙ ap (λ places. places ++ c.args.at ∷ []) c.self.view_is
