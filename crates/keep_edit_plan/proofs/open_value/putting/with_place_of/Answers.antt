use Rattle.std.proofs.Common.{arith, sym}
use Rattle.std.proofs.lemmas.Grind.{common_steps}
use Rattle.keep_edit_plan.proofs.OpenItemLaws.{placed_before}
use Rattle.keep_edit_plan.proofs.open_value.putting.with_place_of.Goals as goal

pub returns : goal.returns
returns c =
    placed_before c.args.places.items _ c.args.number c.args.len c.in-Some.next
    (rw c.deref.ensures.value at (sym c.in-Some.ensures)) (grind (arith, common_steps))
