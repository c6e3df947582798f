use Rattle.keep_syntax_store.proofs.UnfitLaws.{found_there}
use Rattle.keep_syntax_store.proofs.unfit.Unfit.search.Goals as goal

pub returns-in-Some : goal.returns-in-Some
returns-in-Some g c =
    found_there c.self.inside.items.items c.args.self.now c.self.inside.end c.self.view_is c.self.invariant
    c.in-Some.place c.args.number c.index.result.now c.in-Some.ensures.some c.index.ensures
