use Rattle.std.proofs.Common.{◌<◌, length, arith, sym, subst}
use Rattle.keep_index_store.specs.declared.links.PackedLink.{PackedLink}
use Rattle.keep_index_store.specs.Moved.{reordered_link}
use Rattle.keep_index_store.proofs.MovedLinkLemmas.{link_same, links_more, rest_more}
use Rattle.keep_index_store.proofs.links.reordering.reorder_siblings.Goals as goal

pub reorder_sibling-requires-clause-grows : goal.reorder_sibling-requires-clause-grows
reorder_sibling-requires-clause-grows c =
    let d : PackedLink = record { parent = 0; number = 0 } in
    subst (λ (h : PackedLink). h.number < 4294967295)
    (sym (link_same c.args.links.now c.loop-link.links c.loop-link.link-index d c.loop-link.invariant.1))
    (c.requires.grows c.loop-link.link-index d (omega (arith, c.loop-link-test.true)))

pub loop-link-preserved : goal.loop-link-preserved
loop-link-preserved c =
    let d : PackedLink = record { parent = 0; number = 0 } in
    let low : c.loop-link.link-index < length c.args.links.now = omega (arith, c.loop-link-test.true) in (
      links_more (reordered_link c.args.place) c.args.links.now c.loop-link.links c.loop-link.link-index
          c.reorder_sibling.new.link d low c.loop-link.invariant.0 c.reorder_sibling.ensures,
      rest_more c.args.links.now c.loop-link.links c.loop-link.link-index c.reorder_sibling.new.link
          c.loop-link.invariant.1,
    )
