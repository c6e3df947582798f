use Rattle.std.proofs.Common.{arith}
use Rattle.std.proofs.lemmas.Nat.{le_or_l, le_or_r}
use Rattle.keep_syntax_store.proofs.widths.either.Goals as goal

pub returns-clause-most : goal.returns-clause-most
returns-clause-most c = omega (arith, le_or_l c.args.a c.args.b, le_or_r c.args.a c.args.b)
