use Rattle.std.proofs.Common.{ap, ◌-◌, ◌∙◌}
use Rattle.keep_meaning.specs.OtherValues.{totals_of}
use Rattle.keep_meaning.proofs.Shared.{dots_have_last, keys_take_nodes}
use Rattle.keep_rules.proofs.Shared.{dots_leave_nested, dots_take_nodes, keys_leave_nested}
use Rattle.keep_edit_spec.proofs.Shared.{remove_takes_dots, remove_takes_keys}
use Rattle.keep_edit_plan.proofs.AnswerLaws.{seen, tree_is}
use Rattle.keep_edit_plan.proofs.DotsRemovalLaws.{dots_gone}
use Rattle.keep_edit_plan.proofs.KeysRemovalLaws.{keys_gone}
use Rattle.keep_edit_plan.proofs.document.DocumentRef.removed_keys.Goals as goal

-- no key is passed
pub returns-then-first-body : goal.returns-then-first-body
returns-then-first-body c = λ s read here.
    let h = seen c.self.view_is c.self.invariant in
    keys_gone _ _ _ c.args.path.now s h read c.args.line c.args.keys here remove_takes_keys keys_take_nodes
    keys_leave_nested _ (c.saturating_sub-body.ensures ∙ ap (λ n. n - c.args.keys) c.len.ensures.count)
    c.in_ok-first.first
    (c.in_ok-first.ensures s read) c.if-first-body.true c.totals_of-totals.result
    (c.totals_of-totals.ensures h.tree h.is ∙ ap totals_of (tree_is _ _ _ s h read))

-- some are
pub overflow_sub-result : goal.overflow_sub-result
overflow_sub-result c = let (s, read, here) = c.requires in (c.in_ok-first.ensures s read).low

pub returns : goal.returns
returns c = λ s read here.
    let h = seen c.self.view_is c.self.invariant in
    dots_gone remove_takes_dots (dots_take_nodes dots_have_last) dots_leave_nested _ _ _ c.args.path.now s h read
    c.args.line c.args.keys here
    _ (c.saturating_sub-body.ensures ∙ ap (λ n. n - c.args.keys) c.len.ensures.count) c.in_ok-first.first
    (c.in_ok-first.ensures s read) (c.is_dotted_before.ensures s read c.if-not-is_dotted_before.false)
    c.totals_of-totals.result
    (c.totals_of-totals.ensures h.tree h.is ∙ ap totals_of (tree_is _ _ _ s h read))
