use Rattle.keep_syntax_store.proofs.UnfitLaws.{still_ascend, changed_there}
use Rattle.keep_syntax_store.proofs.unfit.Unfit.set.Goals as goal

pub invariant_of-self : goal.invariant_of-self
invariant_of-self g c =
    still_ascend c.self.inside.items.items c.args.self.now c.self.inside.end c.self.view_is c.self.invariant
    c.in-Some.place c.args.number c.index_mut.result.now c.in-Some.ensures.some c.index_mut.ensures.value c.args.entry

pub returns-in-Some : goal.returns-in-Some
returns-in-Some g c =
    changed_there c.self.inside.items.items c.args.self.now c.self.inside.end c.self.view_is c.self.invariant
    c.in-Some.place c.args.number c.index_mut.result.now c.in-Some.ensures.some c.index_mut.ensures.value c.args.entry
