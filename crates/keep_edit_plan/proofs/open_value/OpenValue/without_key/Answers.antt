use Rattle.std.proofs.Common.{rules}
use Rattle.std.specs.Prelude.{string_bytes}
use Rattle.keep_edit_spec.proofs.Shared.{taken_entry_is_value}
use Rattle.keep_edit_plan.proofs.TakenValues.{keyval_taken}
use Rattle.keep_edit_plan.proofs.open_value.OpenValue.without_key.Goals as goal

pub invariant_of-result : goal.invariant_of-result
invariant_of-result c =
    (keyval_taken taken_entry_is_value _ _ _ _ _ c.in_ok-number.number c.args.name.now c.in_ok-cut.cut
    c.in_ok-places.places.items (string_bytes c.in_ok-text.text) c.as_str.result.now c.deref.result.now
    c.self.invariant c.in-Inline.is (search rules) (search rules) (search rules) (search rules) (search rules)
    (search rules) (search rules)).holds

pub returns : goal.returns
returns c =
    let it = (keyval_taken taken_entry_is_value _ _ _ _ _ c.in_ok-number.number c.args.name.now c.in_ok-cut.cut
    c.in_ok-places.places.items (string_bytes c.in_ok-text.text) c.as_str.result.now c.deref.result.now
    c.self.invariant c.in-Inline.is (search rules) (search rules) (search rules) (search rules) (search rules)
    (search rules) (search rules)).takes in
    rw c.self.view_is at it
