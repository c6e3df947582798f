use Rattle.std.proofs.Common.{arith, ◌∙◌, ap, ◌++◌}
use Rattle.std.proofs.lemmas.Grind.{common_steps}
use Rattle.keep_edit_plan.proofs.OpenReadLaws.{place_met, place_passed}
use Rattle.keep_edit_plan.proofs.open_value.places_in.Goals as goal
use Rattle.keep_edit_plan.proofs.open_value.places_in.Goals.{else-value-eq1}
use Rattle.keep_edit_plan.proofs.open_value.places_in.Goals.{then-value-eq1+in_ok-gap+in_ok-len+in_ok-ok}

pub loop-number-preserved : goal.loop-number-preserved
loop-number-preserved c =
    elim c.if-value-eq1.branch [
      | then-value-eq1+in_ok-gap+in_ok-len+in_ok-ok w ↦
          rw (w.end-is, w.places-is) (place_met _ c.loop-number.number c.loop-number.end w.in_ok-gap.gap
          w.in_ok-len.len c.value-value.result c.loop-number.places.items _ c.value-value.ensures.stored
          w.if-value-eq1.true (grind (arith, common_steps)) (grind (arith, common_steps))
          (grind (arith, common_steps)) ∙ c.loop-number.invariant)
      | else-value-eq1 w ↦
          rw (w.end-is, w.places-is) (ap (λ l. c.loop-number.places.items ++ l)
          (place_passed _ c.loop-number.number c.loop-number.end c.value-value.result c.value-value.ensures.stored
          w.if-value-eq1.false) ∙ c.loop-number.invariant)
    ]
