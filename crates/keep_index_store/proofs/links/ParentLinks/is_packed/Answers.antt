use Rattle.std.proofs.Common.{◌≡◌, List, [], All, ap, rules, subst, sym, ◌∙◌}
use Rattle.keep_index_store.specs.declared.links.ParentLink.{ParentLink}
use Rattle.keep_index_store.specs.Links.{FitsIn32Bits, links_in}
use Rattle.keep_index_store.proofs.RemovedLinkLemmas.{packed_fit}
use Rattle.keep_index_store.proofs.links.ParentLinks.is_packed.Goals as goal

pub returns : goal.returns
returns c empty =
    let none : c.self.inside.unpacked.items ≡ [] = search rules in
    subst (λ (hs : List ParentLink). All FitsIn32Bits hs)
    (ap (links_in c.self.inside.packed.items) (sym none) ∙ c.self.view_is)
    (packed_fit c.self.inside.packed.items c.self.invariant.fit)
