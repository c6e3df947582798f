use Rattle.std.proofs.Common.{List, ap, arith, inl, inr, length, sym, ◌∙◌}
use Rattle.std.proofs.lemmas.List.{length-take-le}
use Rattle.keep_path.specs.Path.{Part}
use Rattle.keep_edit_plan.specs.Holding.{is_value_origin}
use Rattle.keep_edit_plan.specs.Inserting.{origin_of}
use Rattle.keep_edit_plan.proofs.AnswerLaws.{seen}
use Rattle.keep_edit_plan.proofs.AimLaws.{number_nested, stated_here}
use Rattle.keep_edit_plan.proofs.document.DocumentRef.reach.Goals as goal

pub node-origin-requires : goal.node-origin-requires
node-origin-requires c =
    let h = seen c.self.view_is c.self.invariant in
    number_nested _ _ _ _ h.tree h h.read _ (c.holder_of-holder.ensures.holder h.tree h.read).walk.node

pub returns-clause-steps : goal.returns-clause-steps
returns-clause-steps c = λ s read.
    let held = c.holder_of-holder.ensures.holder s read in
    sym (ap (λ (p : List Part). length p) held.prefix
    ∙ length-take-le c.holder_of-holder.result.len c.args.path.now held.walk.within)

pub returns-clause-value : goal.returns-clause-value
returns-clause-value c = λ s read.
    let h = seen c.self.view_is c.self.invariant in
    let held = c.holder_of-holder.ensures.holder s read in
    let stated = stated_here _ _ _ _ s h read _ held.walk.node _ c.node-origin.ensures in
    c.is_value.ensures ∙ ap (λ i. is_value_origin i.origin) stated.is
    ∙ ap (λ (p : List Part). is_value_origin (origin_of p s)) (sym held.prefix)

pub returns-clause-few : goal.returns-clause-few
returns-clause-few c =
    let h = seen c.self.view_is c.self.invariant in
    let held = c.holder_of-holder.ensures.holder h.tree h.read in
    elim held.proper [
      | inl none ↦ inl (omega (arith, held.walk.within, ap (λ (p : List Part). length p) none))
      | inr less ↦ inr less
    ]
