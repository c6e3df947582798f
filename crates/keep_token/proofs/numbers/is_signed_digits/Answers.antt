use Rattle.std.proofs.Common.{refl, sym, ◌∙◌}
use Rattle.std.specs.Char.{is_ascii_digit}
use Rattle.keep_token.specs.Numbers.{is_digits}
use Rattle.keep_token.specs.Words.{is_signed_digits}
use Rattle.keep_token.proofs.FirstBytes.{sign_first, sign_none}
use Rattle.keep_token.proofs.numbers.is_signed_digits.Goals as goal

pub returns-then-is_sign : goal.returns-then-is_sign
returns-then-is_sign c =
    c.is_digits.ensures
    ∙ sign_first (is_digits is_ascii_digit) is_signed_digits (λ _ _. refl) c.args.bytes.now c.in-len1-up.len_at_least
    (sym c.is_sign.ensures ∙ c.if-is_sign.true)

pub returns-else-is_sign : goal.returns-else-is_sign
returns-else-is_sign c =
    c.is_digits-else-is_sign.ensures
    ∙ sign_none (is_digits is_ascii_digit) is_signed_digits (λ _ _. refl) c.args.bytes.now c.in-len1-up.len_at_least
    (sym c.is_sign.ensures ∙ c.if-is_sign.false)
