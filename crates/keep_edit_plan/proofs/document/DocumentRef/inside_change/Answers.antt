use Rattle.std.proofs.Common.{refl, ◌∙◌, ap}
use Rattle.keep_meaning.specs.OtherValues.{totals_of}
use Rattle.keep_edit_plan.proofs.AnswerLaws.{seen, tree_is}
use Rattle.keep_edit_plan.proofs.InsideLaws.{inside_changed, none_here, none_yet}
use Rattle.keep_edit_plan.proofs.document.DocumentRef.inside_change.Goals as goal

pub loop-len-init : goal.loop-len-init
loop-len-init c = none_yet c.args.self.now c.args.path.now

pub returns-in-Value : goal.returns-in-Value
returns-in-Value c = λ s read e inside.
    let h = seen c.self.view_is c.self.invariant in
    inside_changed _ _ _ c.args.path.now s h read c.loop-len.len c.loop-len.invariant c.in_ok-node.node _ _ refl
    c.in_ok-node.ensures.found c.node.ensures
    _ c.in-Value.is c.totals_of-totals.result
    (c.totals_of-totals.ensures h.tree h.is ∙ ap totals_of (tree_is _ _ _ s h read)) e inside

pub loop-len-preserved : goal.loop-len-preserved
loop-len-preserved c =
    none_here _ _ _ c.args.path.now c.loop-len.len (seen c.self.view_is c.self.invariant) c.loop-len.invariant
    c.in_ok-node.node _ _ refl c.in_ok-node.ensures.found c.node.ensures c.in_default.not-Value
