use Rattle.std.proofs.Common.{leb-true}
use Rattle.keep_syntax_store.proofs.UnfitLaws.{all_before}
use Rattle.keep_syntax_store.proofs.unfit.Unfit.ends_by.Goals as goal

pub returns : goal.returns
returns g c =
    λ t. all_before c.self.inside.items.items c.args.self.now c.self.inside.end c.self.view_is c.self.invariant
    c.args.number (leb-true _ _ t)
