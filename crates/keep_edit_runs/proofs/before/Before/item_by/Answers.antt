use Rattle.std.proofs.Common.{subst}
use Rattle.std.specs.Prelude.{IfSome}
use Rattle.keep_edit_plan.specs.Reading.{ProfiledText}
use Rattle.keep_edit_runs.specs.Runs.{AddsItemHere}
use Rattle.keep_edit_runs.proofs.ItemSteps.{item_here}
use Rattle.keep_edit_runs.proofs.before.Before.item_by.Goals as goal

pub returns : goal.returns
returns c =
    subst (λ (now : ProfiledText). IfSome c.added_item.result (AddsItemHere now c.args.edit.now c.args.path.now
    c.args.before)) c.as_ref.ensures
    (item_here c.as_ref.result c.args.edit.now c.args.path.now c.in-Insert.own c.args.before c.in-Insert.value
    c.added_item.result c.in-Insert.is
    (λ array n whole. (c.is_item_after.ensures array n whole).0 c.if-not-is_item_after.false)
    c.added_item.ensures.added c.added_item.ensures.within c.added_item.ensures.value)
