use Rattle.std.proofs.Common.{arith}
use Rattle.keep_syntax_store.proofs.StartLaws.{near_fits, near_rest, far_rest, near_matched, far_matched}
use Rattle.keep_syntax_store.proofs.starts.Places.advance.Goals.{then-step+in_ok-place, else-step}
use Rattle.keep_syntax_store.proofs.starts.Places.advance.Goals as goal

pub overflow_add-self : goal.overflow_add-self
overflow_add-self c =
    let p = c.args.self.now in
    omega (
      arith,
      near_fits p.at c.in_ok-step.step.now p.steps.now c.in_ok-step.steps.now p.far.now c.in_ok-step.ensures.cases.0
          c.if-step.false p.small,
    )

pub invariant_of-self-2 : goal.invariant_of-self-2
invariant_of-self-2 c =
    let p = c.args.self.now in
    let step = c.in_ok-step.step.now in
    let steps = c.in_ok-step.steps.now in
    let first = c.in_ok-step.ensures.cases.0 in
    elim c.if-step.branch [
      | then-step+in_ok-place w ↦ rw w.self-is (record {
        small = far_rest p.at step w.in_ok-place.place.now p.steps.now steps p.far.now w.in_ok-place.far.now first
            w.if-step.true w.in_ok-place.ensures.cases.0 p.small;
        matched =
            far_matched step w.in_ok-place.place.now p.steps.now steps p.far.now w.in_ok-place.far.now first
            w.if-step.true w.in_ok-place.ensures.cases.0 p.matched;
      })
      | else-step w ↦ rw w.self-is (record {
        small = near_rest p.at step p.steps.now steps p.far.now first w.if-step.false p.small;
        matched = near_matched step p.steps.now steps p.far.now first w.if-step.false p.matched;
      })
    ]
