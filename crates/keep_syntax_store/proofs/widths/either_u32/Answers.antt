use Rattle.std.proofs.Common.{arith}
use Rattle.std.proofs.lemmas.Nat.{le_or_l, le_or_r, or_lt}
use Rattle.keep_syntax_store.proofs.widths.either_u32.Goals as goal

pub returns-clause-most : goal.returns-clause-most
returns-clause-most c = omega (arith, le_or_l c.args.a c.args.b, le_or_r c.args.a c.args.b)

pub returns-clause-small : goal.returns-clause-small
returns-clause-small c = λ small. or_lt 31 c.args.a c.args.b (omega (arith, small)) (omega (arith, small))
