use Rattle.std.proofs.Common.{rules}
use Rattle.std.specs.Prelude.{string_bytes}
use Rattle.keep_edit_spec.proofs.Shared.{taken_entry_is_value}
use Rattle.keep_edit_plan.proofs.TakenValues.{item_taken}
use Rattle.keep_edit_plan.proofs.open_value.OpenValue.without_item.Goals as goal

pub invariant_of-result : goal.invariant_of-result
invariant_of-result c =
    (item_taken taken_entry_is_value _ _ _ _ _ c.args.number c.in_ok-cut.cut c.in_ok-places.places.items
    (string_bytes c.in_ok-text.text) c.as_str.result.now c.deref.result.now c.self.invariant c.in-Array.is
    (search rules) (search rules) (search rules) (search rules) (search rules) (search rules) (search rules)).holds

pub returns : goal.returns
returns c =
    let it = (item_taken taken_entry_is_value _ _ _ _ _ c.args.number c.in_ok-cut.cut c.in_ok-places.places.items
    (string_bytes c.in_ok-text.text) c.as_str.result.now c.deref.result.now c.self.invariant c.in-Array.is
    (search rules) (search rules) (search rules) (search rules) (search rules) (search rules) (search rules)).takes in
    rw c.self.view_is at it
