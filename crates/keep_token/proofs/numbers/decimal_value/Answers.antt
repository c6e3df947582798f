-- Each sign with the digits after it.
use Rattle.std.proofs.Common.{arith}
use Rattle.std.proofs.lemmas.Bool.Decides.{nat_tests}
use Rattle.keep_token.proofs.IntegerLaws.{IsPlain, minus_written, plus_written, plain_written, integer_none}
use Rattle.keep_token.proofs.IntegerLaws.{integer_some, integer_same, minus_is, minus_fits, none_of}
use Rattle.keep_token.proofs.numbers.decimal_value.Goals as goal

pub returns-in_err-unsigned_value-in-45 : goal.returns-in_err-unsigned_value-in-45
returns-in_err-unsigned_value-in-45 c =
    let w = minus_written c.args.bytes.now c.in-45.len_at_least (omega arith) in
    none_of _ _ _ c.from_residual.ensures
    (integer_none _ _ _ w (minus_fits _) c.in_err-unsigned_value-in-45.ensures)

pub returns-in_ok-unsigned_value-in-45 : goal.returns-in_ok-unsigned_value-in-45
returns-in_ok-unsigned_value-in-45 c =
    let w = minus_written c.args.bytes.now c.in-45.len_at_least (omega arith) in
    integer_some _ _ _ _ _ w c.in_ok-unsigned_value-in-45.ensures.0.0
    (minus_is _ _ c.in_ok-unsigned_value-in-45.ensures.1) c.checked_sub_unsigned.ensures

pub returns-in-43 : goal.returns-in-43
returns-in-43 c =
    integer_same _ _ _ _ (plus_written c.args.bytes.now c.in-43.len_at_least (omega arith)) c.positive_value.ensures

pub returns-in_default : goal.returns-in_default
returns-in_default c =
    let plain : IsPlain c.args.bytes.now = grind (arith, nat_tests) in
    integer_same _ _ _ _ (plain_written c.args.bytes.now c.requires plain) c.positive_value-in_default.ensures
