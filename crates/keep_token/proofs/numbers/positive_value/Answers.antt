use Rattle.keep_token.proofs.IntegerLaws.{fits_some, fits_none}
use Rattle.keep_token.proofs.numbers.positive_value.Goals as goal

pub returns-in_err-unsigned_value : goal.returns-in_err-unsigned_value
returns-in_err-unsigned_value c = fits_none _ _ _ c.from_residual.ensures c.in_err-unsigned_value.ensures

pub returns : goal.returns
returns c =
    fits_some _ _ _ _ c.in_ok-unsigned_value.ensures.0.0 c.in_ok-unsigned_value.ensures.1 c.checked_add_unsigned.ensures
