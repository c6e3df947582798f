use Rattle.keep_edit_plan.proofs.KeyNumberLaws.{numbers_next}
use Rattle.keep_edit_plan.proofs.open_value.key_numbers.numbers_in.Goals as goal

pub loop-place-preserved : goal.loop-place-preserved
loop-place-preserved c =
    numbers_next c.args.text.now c.args.places.now c.loop-place.numbers c.insert.new.self c.loop-place.place-index
    c.loop-place.end c.in_ok-start.start c.in_ok-end.end c.in_ok-number.number c.loop-place-test.true
    c.loop-place.invariant c.in_ok-start.ensures.1 c.in_ok-end.ensures.1 c.in_ok-number.ensures
    c.in-Ok.ensures.updates
