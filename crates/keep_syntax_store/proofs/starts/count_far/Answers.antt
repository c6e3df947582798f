use Rattle.std.proofs.Common.{◌+◌, length, ap, arith}
use Rattle.std.proofs.lemmas.List.{length-drop, take_all, take_rest}
use Rattle.keep_syntax_store.specs.Starts.{fars}
use Rattle.keep_syntax_store.proofs.RunLaws.{far_counted, none_far}
use Rattle.keep_syntax_store.proofs.starts.count_far.Goals as goal

pub steps-preserved : goal.steps-preserved
steps-preserved c =
    let left = c.steps.left.now in
    let at = c.in-Some.at in
    let first = c.in-Some.ensures in
    let rest = take_rest left (at + 1) in
    record {
      counted =
          omega (
            arith,
            c.steps.invariant.counted,
            far_counted left at first.0.high (λ k before. first.0.before k (omega arith) before) first.1,
            ap fars rest,
          );
      bounded = omega (arith, c.steps.invariant.bounded, ap length rest, length-drop (at + 1) left, first.0.high);
    }

pub returns : goal.returns
returns c =
    let left = c.steps.left.now in
    omega (
      arith,
      c.steps.invariant.counted,
      none_far left (length left) (omega arith) (λ k within. c.in_default.ensures k (omega arith) within),
      ap fars (take_all (length left) left (omega arith)),
    )
