use Rattle.std.proofs.Common.{refl, sym, ◌∙◌}
use Rattle.keep_token.specs.Numbers.{is_decimal, is_unsigned}
use Rattle.keep_token.proofs.FirstBytes.{sign_first, sign_none}
use Rattle.keep_token.proofs.numbers.is_decimal.Goals as goal

pub returns-then-is_sign : goal.returns-then-is_sign
returns-then-is_sign c =
    c.is_unsigned.ensures
    ∙ sign_first is_unsigned is_decimal (λ _ _. refl) c.args.bytes.now c.in-len1-up.len_at_least
    (sym c.is_sign.ensures ∙ c.if-is_sign.true)

pub returns-else-is_sign : goal.returns-else-is_sign
returns-else-is_sign c =
    c.is_unsigned-else-is_sign.ensures
    ∙ sign_none is_unsigned is_decimal (λ _ _. refl) c.args.bytes.now c.in-len1-up.len_at_least
    (sym c.is_sign.ensures ∙ c.if-is_sign.false)
