use Rattle.std.proofs.Common.{◌≡◌, ◌∙◌, ap, arith, length, map, subst, sym, All, List}
use Rattle.std.proofs.lemmas.List.{with_items_is}
use Rattle.keep_index_store.specs.declared.links.PackedLink.{PackedLink}
use Rattle.keep_index_store.specs.Links.{link_of}
use Rattle.keep_index_store.specs.Replacing.{CanShiftLink, shifted_link}
use Rattle.keep_index_store.proofs.ShiftedLinkLemmas.{seen_each}
use Rattle.keep_index_store.proofs.links.replacing.shift_all_links.Goals as goal

pub shift_links-requires : goal.shift_links-requires
shift_links-requires c =
    subst (λ (hs : List PackedLink). All (λ h. CanShiftLink c.args.by (link_of h)) hs)
    (sym c.as_mut_slice.ensures.value)
    (seen_each (CanShiftLink c.args.by) c.args.links.now.items c.requires)

pub returns-clause-links : goal.returns-clause-links
returns-clause-links c =
    let many : length c.shift_links.new.links ≡ c.args.links.now.len =
    omega (
      arith,
      c.shift_links.auto.links,
      ap length c.as_mut_slice.ensures.value,
      c.args.links.now.ok.0,
    ) in
    ap (map link_of) (with_items_is c.args.links.now c.shift_links.new.links many) ∙ c.shift_links.ensures
    ∙ ap (λ (hs : List PackedLink). map (shifted_link c.args.by) (map link_of hs)) c.as_mut_slice.ensures.value
