use Rattle.std.proofs.Common.{arith}
use Rattle.keep_syntax_store.proofs.UnfitLaws.{none_after}
use Rattle.keep_syntax_store.proofs.unfit.Unfit.find.Goals as goal

pub returns-then-self-number : goal.returns-then-self-number
returns-then-self-number g c =
    none_after c.self.inside.items.items c.args.self.now c.self.inside.end c.self.view_is c.self.invariant c.args.number
    (omega (arith, c.if-self-number.true))
