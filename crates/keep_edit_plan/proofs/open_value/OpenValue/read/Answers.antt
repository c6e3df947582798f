use Rattle.std.proofs.Common.{refl}
use Rattle.keep_edit_plan.proofs.OpenReadLaws.{open_holds}
use Rattle.keep_edit_plan.proofs.open_value.OpenValue.read.Goals as goal

pub invariant_of-result : goal.invariant_of-result
invariant_of-result c =
    rw c.in-Ok-from_str.ensures.ok (open_holds c.args.text.now c.in-Ok.syntax c.in_ok-places.places.items _ _ _
    c.in-Ok.ensures.found c.in-Ok-check_value.ensures.ok c.value-leaf.result c.value-leaf.ensures.stored
    (c.if-not-is_bracket.ensures refl) c.kind_of.ensures c.depth.ensures c.in_ok-places.ensures
    c.unknown.ensures)
