-- Each iteration reads one digit; past 64 bits, or at another byte, there is no value.
use Rattle.std.proofs.Common.{◌≡◌, ℕ, ◌+◌, ◌*◌, ◌<◌, ◌^◌, arith, sym, ◌∙◌}
use Rattle.std.specs.Char.{digit_value}
use Rattle.keep_token.proofs.ValueLaws.{Reads, none_if, so_far_none, so_far_over, so_far_bad, so_far_large, so_far_last}
use Rattle.keep_token.proofs.ValueLaws.{so_far_passed, so_far_more}
use Rattle.keep_token.proofs.numbers.digits_value.Goals as goal

sum_is : (product value factor base digit read code b : ℕ) → product ≡ value * factor → factor ≡ base → digit ≡ read
    → read ≡ digit_value code → code ≡ b → product + digit ≡ value * base + digit_value b
sum_is product value factor base digit read code b e f g h k = rw (e, f, g, h, k)

pub loop-digit-init : goal.loop-digit-init
loop-digit-init c = so_far_none _ _

pub returns-in_err-digit : goal.returns-in_err-digit
returns-in_err-digit c =
    none_if _ _ _ c.from_residual.ensures (so_far_over _ _ _ _ c.in_err-digit.ensures.cases c.loop-digit.invariant)

pub returns-in_err-digit-2 : goal.returns-in_err-digit-2
returns-in_err-digit-2 c =
    none_if _ _ _ c.from_residual-in_err-digit-2.ensures
    (so_far_bad _ _ _ _ _ (rw c.in_ok-digit.ensures.cases.0 at c.loop-digit.invariant)
    (rw c.from.ensures at c.in_err-digit-2.ensures.value))

pub returns-in_err-checked_mul : goal.returns-in_err-checked_mul
returns-in_err-checked_mul c =
    let reads : Reads c.args.base c.loop-digit.rest.now c.in_ok-digit.digit.now c.in_ok-digit.more.now = record {
      from = c.requires.low;
      to = c.requires.high;
      digit = rw c.from.ensures at c.in_ok-digit-2.ensures.value.0;
      rest_is = c.in_ok-digit.ensures.cases.0;
    } in
    none_if _ _ _ c.from_residual-in_err-checked_mul.ensures
    (so_far_large _ _ _ _ _ _ reads c.loop-digit.invariant
    (λ (h : c.loop-digit.value * c.args.base + digit_value c.in_ok-digit.digit.now < 2 ^ 64).
    c.in_err-checked_mul.ensures (rw c.from-in-loop-digit.ensures (omega arith))))

pub returns-in_err-value : goal.returns-in_err-value
returns-in_err-value c =
    let reads : Reads c.args.base c.loop-digit.rest.now c.in_ok-digit.digit.now c.in_ok-digit.more.now = record {
      from = c.requires.low;
      to = c.requires.high;
      digit = rw c.from.ensures at c.in_ok-digit-2.ensures.value.0;
      rest_is = c.in_ok-digit.ensures.cases.0;
    } in
    let sum =
    sum_is _ _ _ _ _ _ _ _ c.in_ok-checked_mul.ensures.1 c.from-in-loop-digit.ensures c.from-in-loop-digit-2.ensures
    c.in_ok-digit-2.ensures.value.1 c.from.ensures in
    none_if _ _ _ c.from_residual-in_err-value.ensures
    (so_far_large _ _ _ _ _ _ reads c.loop-digit.invariant
    (λ (h : c.loop-digit.value * c.args.base + digit_value c.in_ok-digit.digit.now < 2 ^ 64).
    c.in_err-value.ensures (rw sum h)))

pub returns-in-empty : goal.returns-in-empty
returns-in-empty c =
    let reads : Reads c.args.base c.loop-digit.rest.now c.in_ok-digit.digit.now c.in_ok-digit.more.now = record {
      from = c.requires.low;
      to = c.requires.high;
      digit = rw c.from.ensures at c.in_ok-digit-2.ensures.value.0;
      rest_is = c.in_ok-digit.ensures.cases.0;
    } in
    let value : c.in_ok-value.value ≡ c.loop-digit.value * c.args.base + digit_value c.in_ok-digit.digit.now =
    c.in_ok-value.ensures.1
    ∙ sum_is _ _ _ _ _ _ _ _ c.in_ok-checked_mul.ensures.1 c.from-in-loop-digit.ensures c.from-in-loop-digit-2.ensures
    c.in_ok-digit-2.ensures.value.1 c.from.ensures in
    let (below, is) =
    so_far_last _ _ _ _ _ _ reads c.loop-digit.invariant (omega arith)
    (rw (sym value) (rw c.in_ok-value.ensures.1 c.in_ok-value.ensures.0)) in
    (below, value ∙ is)

pub loop-digit-preserved-in-95 : goal.loop-digit-preserved-in-95
loop-digit-preserved-in-95 c =
    let reads : Reads c.args.base c.loop-digit.rest.now c.in_ok-digit.digit.now c.in_ok-digit.more.now = record {
      from = c.requires.low;
      to = c.requires.high;
      digit = rw c.from.ensures at c.in_ok-digit-2.ensures.value.0;
      rest_is = c.in_ok-digit.ensures.cases.0;
    } in
    let value : c.in_ok-value.value ≡ c.loop-digit.value * c.args.base + digit_value c.in_ok-digit.digit.now =
    c.in_ok-value.ensures.1
    ∙ sum_is _ _ _ _ _ _ _ _ c.in_ok-checked_mul.ensures.1 c.from-in-loop-digit.ensures c.from-in-loop-digit-2.ensures
    c.in_ok-digit-2.ensures.value.1 c.from.ensures in
    rw value (so_far_passed _ _ _ _ _ _ reads c.loop-digit.invariant c.in-95.len_at_least (omega arith))

pub loop-digit-preserved : goal.loop-digit-preserved
loop-digit-preserved c =
    let reads : Reads c.args.base c.loop-digit.rest.now c.in_ok-digit.digit.now c.in_ok-digit.more.now = record {
      from = c.requires.low;
      to = c.requires.high;
      digit = rw c.from.ensures at c.in_ok-digit-2.ensures.value.0;
      rest_is = c.in_ok-digit.ensures.cases.0;
    } in
    let value : c.in_ok-value.value ≡ c.loop-digit.value * c.args.base + digit_value c.in_ok-digit.digit.now =
    c.in_ok-value.ensures.1
    ∙ sum_is _ _ _ _ _ _ _ _ c.in_ok-checked_mul.ensures.1 c.from-in-loop-digit.ensures c.from-in-loop-digit-2.ensures
    c.in_ok-digit-2.ensures.value.1 c.from.ensures in
    rw value (so_far_more _ _ _ _ _ _ reads c.loop-digit.invariant c.in_default.len_at_least (λ e. omega arith))
