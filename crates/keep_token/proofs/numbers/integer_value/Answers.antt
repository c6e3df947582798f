-- The digits after the prefix of a base, or a decimal integer.
use Rattle.std.proofs.Common.{arith}
use Rattle.std.proofs.lemmas.Bool.Decides.{nat_tests}
use Rattle.keep_token.proofs.IntegerLaws.{NoPrefix, no_prefix, hex_digits, octal_digits, binary_digits, prefixed}
use Rattle.keep_token.proofs.IntegerLaws.{prefixed_same}
use Rattle.keep_token.proofs.numbers.integer_value.Goals as goal

pub returns-in-48 : goal.returns-in-48
returns-in-48 c =
    prefixed_same _ 16 _ _ (prefixed 16 0x78 hex_digits c.args.bytes.now c.in-48.len_at_least (omega arith)
    (omega arith)) c.based_value.ensures

pub returns-in-48-2 : goal.returns-in-48-2
returns-in-48-2 c =
    prefixed_same _ 8 _ _ (prefixed 8 0x6F octal_digits c.args.bytes.now c.in-48-2.len_at_least (omega arith)
    (omega arith)) c.based_value-in-48-2.ensures

pub returns-in-48-3 : goal.returns-in-48-3
returns-in-48-3 c =
    prefixed_same _ 2 _ _ (prefixed 2 0x62 binary_digits c.args.bytes.now c.in-48-3.len_at_least (omega arith)
    (omega arith)) c.based_value-in-48-3.ensures

pub decimal_value-requires : goal.decimal_value-requires
decimal_value-requires c =
    let none : NoPrefix c.args.bytes.now = grind (arith, nat_tests) in
    no_prefix c.args.bytes.now none

pub returns-in_default : goal.returns-in_default
returns-in_default c = c.decimal_value.ensures
