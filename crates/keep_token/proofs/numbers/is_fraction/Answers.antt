use Rattle.std.proofs.Common.{◌≡◌, Bool, true, false, sym, ◌∙◌}
use Rattle.std.specs.Prelude.{◌||◌}
use Rattle.keep_token.proofs.FractionLaws.{fraction_is}
use Rattle.keep_token.proofs.numbers.is_fraction.Goals as goal

first_holds : (a b r : Bool) → r ≡ a → r ≡ true → r ≡ (a || b)
first_holds true b r e t = e
first_holds false b r e t = absurd (let never = sym e ∙ t in cc)

first_fails : (a b r f : Bool) → f ≡ a → f ≡ false → r ≡ b → r ≡ (a || b)
first_fails true b r f e fails is = absurd (let never = sym e ∙ fails in cc)
first_fails false b r f e fails is = is

pub returns-then-is_digits : goal.returns-then-is_digits
returns-then-is_digits c =
    fraction_is c.args.bytes.now c.is_digits.result c.in-len1-up.len_at_least c.if-point-eq46.true
    (first_holds _ _ c.is_digits.result c.is_digits.ensures c.if-is_digits.true)

pub returns-else-is_digits : goal.returns-else-is_digits
returns-else-is_digits c =
    fraction_is c.args.bytes.now c.has_exponent.result c.in-len1-up.len_at_least c.if-point-eq46.true
    (first_fails _ _ c.has_exponent.result c.is_digits.result c.is_digits.ensures c.if-is_digits.false
    c.has_exponent.ensures)
