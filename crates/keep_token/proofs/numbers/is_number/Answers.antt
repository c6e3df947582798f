use Rattle.std.proofs.Common.{take, drop, ap, ◌∙◌}
use Rattle.std.proofs.lemmas.List.{take_rest}
use Rattle.keep_token.specs.Numbers.{is_decimal}
use Rattle.keep_token.specs.Words.{is_exponent, is_fraction}
use Rattle.keep_token.proofs.TestChains.{and_fails, and_or_first, and_or_second}
use Rattle.keep_token.proofs.numbers.is_number.Goals as goal

pub returns-else-is_decimal : goal.returns-else-is_decimal
returns-else-is_decimal c =
    let t = c.args.bytes.now in
    let decimal = c.is_decimal.ensures ∙ ap (λ n. is_decimal (take n t)) c.whole_run-len.ensures.len in
    and_fails _ _ _ decimal c.if-is_decimal.false

pub returns-then-is_exponent : goal.returns-then-is_exponent
returns-then-is_exponent c =
    let t = c.args.bytes.now in
    let decimal = c.is_decimal.ensures ∙ ap (λ n. is_decimal (take n t)) c.whole_run-len.ensures.len in
    let exponent =
    c.is_exponent.ensures ∙ ap is_exponent (take_rest t c.whole_run-len.result)
    ∙ ap (λ n. is_exponent (drop n t)) c.whole_run-len.ensures.len in
    and_or_first _ _ _ _ _ decimal c.if-is_decimal.true exponent c.if-is_exponent.true

pub returns-else-is_exponent : goal.returns-else-is_exponent
returns-else-is_exponent c =
    let t = c.args.bytes.now in
    let decimal = c.is_decimal.ensures ∙ ap (λ n. is_decimal (take n t)) c.whole_run-len.ensures.len in
    let exponent =
    c.is_exponent.ensures ∙ ap is_exponent (take_rest t c.whole_run-len.result)
    ∙ ap (λ n. is_exponent (drop n t)) c.whole_run-len.ensures.len in
    let fraction =
    c.is_fraction.ensures ∙ ap is_fraction (take_rest t c.whole_run-len.result)
    ∙ ap (λ n. is_fraction (drop n t)) c.whole_run-len.ensures.len in
    and_or_second _ _ _ _ _ _ decimal c.if-is_decimal.true exponent c.if-is_exponent.false fraction
