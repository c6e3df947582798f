use Rattle.std.proofs.Common.{length, ap, arith}
use Rattle.keep_syntax_store.specs.Left.{places_left}
use Rattle.keep_syntax_store.proofs.CountLaws.{before_within, places_within, run_counted, run_within}
use Rattle.keep_syntax_store.proofs.starts.Places.count_before.Goals as goal

pub runs-init : goal.runs-init
runs-init c =
    let p = c.args.self.now in
    record {
      counted = omega arith;
      bounded = omega (arith, c.step_count-count.ensures, places_within p.at p.steps.now p.far.now);
    }

pub overflow_add-result : goal.overflow_add-result
overflow_add-result c =
    omega (
      arith,
      c.runs.invariant.bounded,
      ap length c.in-Some.ensures.first,
      c.count_each_before.ensures,
      before_within c.args.place (places_left c.advance.new.self),
      c.step_count-count.type_inv,
    )

pub overflow_add-number-in-Some : goal.overflow_add-number-in-Some
overflow_add-number-in-Some c =
    let near = c.take_near-group.result in
    omega (
      arith,
      c.runs.invariant.bounded,
      c.step_count-count.type_inv,
      run_within c.in-Some.at c.advance.new.self.at (places_left c.runs.left) (places_left c.advance.new.self)
          near.steps.now (places_left c.take_near-group.new.self)
          c.in-Some.ensures.first c.take_near-group.ensures.left near.near,
    )

pub runs-preserved : goal.runs-preserved
runs-preserved c =
    let near = c.take_near-group.result in
    let at = c.in-Some.at in
    let there = c.advance.new.self.at in
    let left = places_left c.runs.left in
    let after = places_left c.advance.new.self in
    let rest = places_left c.take_near-group.new.self in
    record {
      counted = omega (
        arith,
        c.runs.invariant.counted,
        run_counted c.args.place at there left after near.steps.now rest c.in-Some.ensures.first c.in-Some.ensures.at
            c.take_near-group.ensures.left near.near
            (omega (arith, c.if-place-at.false)) (omega (arith, c.if-place-at-2.false, near.leads)),
      );
      bounded = omega (
        arith,
        c.runs.invariant.bounded,
        run_within at there left after near.steps.now rest c.in-Some.ensures.first c.take_near-group.ensures.left
            near.near,
      );
    }
