-- Each digit adds to sixteen times the digits before it.
use Rattle.std.proofs.Common.{◌+◌, ◌*◌, arith, ap, ◌∙◌}
use Rattle.std.specs.Char.{digit_value}
use Rattle.keep_token.proofs.DigitLaws.{one_more, power_below, power_more}
use Rattle.keep_token.proofs.escape.hex_value.Goals as goal

pub overflow_mul-value : goal.overflow_mul-value
overflow_mul-value c = omega (arith, power_below c.loop-digit.digit-index (omega arith))

pub overflow_add-value : goal.overflow_add-value
overflow_add-value c =
    let (below, value) = c.in_ok-value.ensures.value in
    omega (arith, power_below c.loop-digit.digit-index (omega arith), below, value)

pub loop-digit-preserved : goal.loop-digit-preserved
loop-digit-preserved c =
    let (below, value) = c.in_ok-value.ensures.value in
    let more =
    one_more c.args.digits.now c.loop-digit.digit-index c.in_ok-value.field-0 (omega arith)
    (value ∙ ap digit_value c.from.ensures) (omega (arith, below, value)) c.loop-digit.invariant.digits in
    record {
      read = ap (λ n. n * 16 + c.in_ok-value.field-0) c.loop-digit.invariant.read ∙ more.0;
      digits = more.1;
      bound = power_more c.loop-digit.digit-index c.loop-digit.value c.in_ok-value.field-0 c.loop-digit.invariant.bound
          (omega (arith, below, value));
    }
