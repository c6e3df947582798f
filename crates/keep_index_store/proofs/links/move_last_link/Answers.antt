use Rattle.std.proofs.Common.{◌≡◌, ◌∙◌, List, ap, arith, length, map, subst, sym}
use Rattle.std.proofs.lemmas.List.{with_items_is}
use Rattle.keep_index_store.specs.declared.links.PackedLink.{PackedLink}
use Rattle.keep_index_store.specs.Links.{link_of}
use Rattle.keep_index_store.specs.Moved.{NoneComesAfter, moved_link, with_last_at}
use Rattle.keep_index_store.proofs.MovedLinkLemmas.{links_moved}
use Rattle.keep_index_store.proofs.links.move_last_link.Goals as goal

pub renumber-requires-clause-last : goal.renumber-requires-clause-last
renumber-requires-clause-last c =
    subst (λ (hs : List PackedLink). NoneComesAfter c.args.place (map link_of hs)) (sym c.as_mut_slice.ensures.value)
    c.requires.last

pub returns : goal.returns
returns c none =
    let old : List PackedLink = c.args.links.now.items in
    let mid : List PackedLink = c.renumber.new.links in
    let value : c.as_mut_slice.result.now ≡ old = c.as_mut_slice.ensures.value in
    let many : length mid ≡ c.args.links.now.len =
    omega (arith, c.renumber.auto.links, ap length value, c.args.links.now.ok.0) in
    links_moved c.args.place old mid c.move_last_to.new.items.items none (omega (arith, many, c.requires.within))
    (c.renumber.ensures ∙ ap (λ (hs : List PackedLink). map (moved_link c.args.place) (map link_of hs)) value)
    (λ d. c.move_last_to.ensures.moved d
    ∙ ap (λ hs. with_last_at d hs c.args.place.at) (with_items_is c.args.links.now mid many))
