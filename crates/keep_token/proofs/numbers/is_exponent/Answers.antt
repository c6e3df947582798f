use Rattle.std.proofs.Common.{refl, sym, ◌∙◌}
use Rattle.keep_token.specs.Words.{is_e, is_exponent, is_signed_digits}
use Rattle.keep_token.proofs.FirstBytes.{passes_first, fails_first}
use Rattle.keep_token.proofs.numbers.is_exponent.Goals as goal

pub returns-then-is_e : goal.returns-then-is_e
returns-then-is_e c =
    c.is_signed_digits.ensures
    ∙ passes_first is_e is_signed_digits is_exponent (λ _ _. refl) c.args.bytes.now c.in-len1-up.len_at_least
    (sym c.is_e.ensures ∙ c.if-is_e.true)

pub returns-else-is_e : goal.returns-else-is_e
returns-else-is_e c =
    c.if-is_e.false
    ∙ fails_first is_e is_signed_digits is_exponent (λ _ _. refl) c.args.bytes.now c.in-len1-up.len_at_least
    (sym c.is_e.ensures ∙ c.if-is_e.false)
