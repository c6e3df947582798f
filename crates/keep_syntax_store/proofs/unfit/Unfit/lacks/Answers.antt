use Rattle.std.proofs.Common.{arith}
use Rattle.keep_syntax_store.proofs.UnfitLaws.{found_before}
use Rattle.keep_syntax_store.proofs.unfit.Unfit.lacks.Goals as goal

pub returns-then-ends_by : goal.returns-then-ends_by
returns-then-ends_by g c = λ t.
    found_before c.args.number c.args.number c.args.self.now (c.ends_by.ensures c.if-ends_by.true) (omega arith)
