-- The digits of a base are those of ten, and no 0 comes before another.
use Rattle.std.proofs.Common.{arith}
use Rattle.std.proofs.lemmas.Bool.Decides.{nat_tests}
use Rattle.keep_token.proofs.IntegerLaws.{MayBeUnsigned, unsigned_value_is}
use Rattle.keep_token.proofs.numbers.unsigned_value.Goals as goal

pub returns-in_default : goal.returns-in_default
returns-in_default c =
    let may : MayBeUnsigned c.args.digits.now = grind (arith, nat_tests) in
    unsigned_value_is _ c.args.digits.now may c.digits_value.ensures
