use Rattle.std.proofs.Common.{◌≡◌, ◌<◌, ◌+◌, suc, length, map, All, List, ap, ◌∙◌, arith, set, subst, sym}
use Rattle.keep_path.specs.NodesBelow.{spliced}
use Rattle.keep_index_store.specs.declared.links.PackedLink.{PackedLink}
use Rattle.keep_index_store.specs.declared.links.ParentLink.{ParentLink}
use Rattle.std.proofs.lemmas.List.{length-map}
use Rattle.keep_index_store.specs.Links.{FitsIn32Bits, link_of}
use Rattle.keep_index_store.specs.Replacing.{replaced_links}
use Rattle.keep_index_store.proofs.ShiftedLinkLemmas.{links_replaced, replaced_fit}
use Rattle.keep_index_store.proofs.links.replacing.replace_links.Goals as goal

replaced : (c : goal.After-splice_in) → map link_of c.splice_in.new.items.items
    ≡ replaced_links c.args.beside c.args.id c.args.gone (map link_of c.args.links.now.items)
    (map link_of c.args.inside.items)
replaced c =
    let x : PackedLink = c.index.result.now in
    let links : List PackedLink = c.shift_all_links.new.links.items in
    let inside : List PackedLink = set c.shift_all_links-2.new.links.items 0 x in
    let one : c.args.gone + 1 ≡ suc c.args.gone = omega arith in
    links_replaced c.args.beside c.args.id c.args.gone c.args.links.now.items c.args.inside.items links
    c.shift_all_links-2.new.links.items c.shift_all_links.ensures.links c.shift_all_links-2.ensures.links
    (omega (arith, c.requires.within.0, c.args.links.now.ok.0))
    (omega (arith, c.requires.within.1, c.args.inside.ok.0))
    c.splice_in.new.items.items x c.index.ensures
    (c.splice_in.ensures ∙ ap (λ n. spliced c.args.id n inside links) one)

pub returns-clause-replaced : goal.returns-clause-replaced
returns-clause-replaced c = replaced c

pub returns-clause-fit : goal.returns-clause-fit
returns-clause-fit c =
    let links : List ParentLink = map link_of c.args.links.now.items in
    let low : c.args.id < length links =
    omega (arith, c.requires.within.0, c.args.links.now.ok.0, length-map c.args.links.now.items link_of) in
    subst (λ (hs : List ParentLink). All FitsIn32Bits hs) (sym (replaced c))
    (replaced_fit c.args.beside c.args.id c.args.gone links (map link_of c.args.inside.items) low c.requires.can
    c.requires.can_inside)
