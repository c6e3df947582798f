-- All links are packed, since all fit into 32 bits each.
use Rattle.std.proofs.Common.{◌≡◌, ◌∙◌, ap, arith, length, map}
use Rattle.std.specs.List.{remove}
use Rattle.std.proofs.lemmas.List.{with_items_is}
use Rattle.keep_index_store.specs.Links.{link_of}
use Rattle.keep_index_store.specs.Removed.{earlier_link}
use Rattle.keep_index_store.proofs.RemovedLinkLemmas.{left_fit, links_removed, packed_count}
use Rattle.keep_index_store.proofs.links.ParentLinks.remove.Goals as goal

pub remove-requires : goal.remove-requires
remove-requires c =
    let packed = c.self.inside.packed in
    let many = packed_count packed.items _ _ c.self.view_is c.self.invariant.large c.requires.small in
    omega (arith, c.requires.within, many, packed.ok.0)

-- the links renumbered, and then without that one
by : (c : goal.After-remove)
    → map link_of c.renumber_earlier.new.links
    ≡ map (earlier_link c.args.at c.get-gone.result) (map link_of c.self.inside.packed.items)
by c =
    c.renumber_earlier.ensures
    ∙ ap (λ hs. map (earlier_link c.args.at c.get-gone.result) (map link_of hs)) c.as_mut_slice.ensures.value

is : (c : goal.After-remove) → c.remove.new.self.items ≡ remove c.renumber_earlier.new.links c.args.at
is c =
    let many = ap length c.as_mut_slice.ensures.value in
    c.remove.ensures.items
    ∙ ap (λ hs. remove hs c.args.at)
    (with_items_is c.self.inside.packed c.renumber_earlier.new.links
    (omega (arith, c.renumber_earlier.auto.links, many, c.self.inside.packed.ok.0)))

pub invariant_of-self : goal.invariant_of-self
invariant_of-self c = record {
  fit =
      left_fit c.self.inside.packed.items _ _ c.self.view_is c.self.invariant.large c.requires.small c.args.at
      c.get-gone.result c.renumber_earlier.new.links c.remove.new.self.items (by c) (is c);
  large = c.self.invariant.large;
}

pub returns-clause-others : goal.returns-clause-others
returns-clause-others c =
    links_removed c.self.inside.packed.items _ _ c.self.view_is c.self.invariant.large c.requires.small c.args.at
    c.get-gone.result c.renumber_earlier.new.links c.remove.new.self.items (by c) (is c)
