use Rattle.std.proofs.Common.{arith, rules, refl}
use Rattle.keep_edit_plan.specs.OpenPlaces.{CanBeNested}
use Rattle.keep_rules.proofs.Shared.{in_wide}
use Rattle.keep_edit_plan.proofs.OpenPutLaws.{item_holds, item_puts}
use Rattle.keep_types.specs.declared.leaf.Profile.TheVariants.{Strict}
use Rattle.keep_edit_plan.proofs.open_value.OpenValue.with_item.Goals as goal

pub overflow_add-depth : goal.overflow_add-depth
overflow_add-depth c =
    let can : CanBeNested c.args.item.now = c.if-not-can_be_nested.ensures refl in
    omega (arith, c.depth.ensures can.0 (in_wide Strict c.args.item.now can.0 can.1), can.2)

pub invariant_of-result : goal.invariant_of-result
invariant_of-result c =
    let can : CanBeNested c.args.item.now = c.if-not-can_be_nested.ensures refl in
    let deep = c.depth.ensures can.0 (in_wide Strict c.args.item.now can.0 can.1) in
    item_holds _ _ _ _ _ c.self.invariant c.in-Array.is c.args.number (search rules) c.args.item.now can.0 can.1 can.2 _
    _ _ (search rules) (search rules) (search rules)

pub returns : goal.returns
returns c =
    let can : CanBeNested c.args.item.now = c.if-not-can_be_nested.ensures refl in
    rw c.self.view_is at (item_puts _ _ _ _ _ c.self.invariant c.in-Array.is c.args.number (search rules)
    c.args.item.now can.0 can.1 can.2 c.in_ok-text.text.bytes.items (search rules))
