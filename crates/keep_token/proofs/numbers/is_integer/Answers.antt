-- A value is found where the text is an integer.
use Rattle.std.proofs.Common.{◌∙◌, sym}
use Rattle.keep_token.proofs.IntegerLaws.{is_integer_some}
use Rattle.keep_token.proofs.ShortDecimals.{short_integer}
use Rattle.keep_token.proofs.numbers.is_integer.Goals as goal

pub returns-then-is_short_decimal : goal.returns-then-is_short_decimal
returns-then-is_short_decimal c =
    sym (short_integer c.args.bytes.now (sym c.is_short_decimal.ensures ∙ c.if-is_short_decimal.true))

pub returns : goal.returns
returns c = c.is_some.ensures ∙ is_integer_some c.integer_value.result c.args.bytes.now c.integer_value.ensures
