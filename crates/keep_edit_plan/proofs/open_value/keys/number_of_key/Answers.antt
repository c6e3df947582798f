use Rattle.std.proofs.Common.{arith, refl}
use Rattle.keep_edit_plan.proofs.KeyedEntries.{keyed_here, keyed_next}
use Rattle.keep_edit_plan.proofs.open_value.keys.number_of_key.Goals as goal

pub returns-then-is_own_key : goal.returns-then-is_own_key
returns-then-is_own_key c =
    keyed_here c.args.name.now c.args.text.now c.args.places.now c.loop-place.place-index c.loop-place.end
    c.in_ok-start.start c.loop-place-test.true c.loop-place.invariant.found c.in_ok-start.ensures.1 c.loop-place.number
    c.loop-place.invariant.count (c.if-is_own_key.ensures refl)

pub loop-place-preserved : goal.loop-place-preserved
loop-place-preserved c = record {
  count = omega arith;
  found =
      keyed_next c.args.name.now c.args.text.now c.args.places.now c.loop-place.place-index c.loop-place.end
      c.in_ok-start.start c.loop-place-test.true c.loop-place.invariant.found c.in_ok-start.ensures.1 c.in_ok-end.end
      c.in_ok-end.ensures.1 (c.if-not-is_other_key.ensures refl);
}
