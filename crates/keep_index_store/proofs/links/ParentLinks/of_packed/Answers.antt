use Rattle.keep_index_store.specs.Links.{FitsIn32Bits, StartsLarge}
use Rattle.std.proofs.Common.{List, subst, sym}
use Rattle.keep_index_store.specs.declared.links.ParentLink.{ParentLink}
use Rattle.keep_index_store.proofs.ShiftedLinkLemmas.{seen_each}
use Rattle.keep_index_store.proofs.links.ParentLinks.of_packed.Goals as goal

pub invariant_of-result : goal.invariant_of-result
invariant_of-result c = record {
  fit = seen_each FitsIn32Bits c.args.packed.items c.requires;
  large = subst (λ (hs : List ParentLink). StartsLarge hs) (sym c.new.ensures.items) tt;
}
