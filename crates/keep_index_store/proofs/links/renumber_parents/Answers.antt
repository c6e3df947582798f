use Rattle.std.proofs.Common.{◌<◌, ℕ, ap, arith, get_or, length, subst, sym}
use Rattle.keep_index_store.specs.declared.links.PackedLink.{PackedLink}
use Rattle.keep_index_store.specs.declared.links.ParentLink.{ParentLink}
use Rattle.keep_index_store.specs.Moved.{with_later_parent}
use Rattle.keep_index_store.proofs.MovedLinkLemmas.{link_same, links_more, rest_more}
use Rattle.keep_index_store.proofs.links.renumber_parents.Goals as goal

pub later_parent-link-requires : goal.later_parent-link-requires
later_parent-link-requires c =
    let d : PackedLink = record { parent = 0; number = 0 } in
    subst (λ (h : PackedLink). h.parent < 4294967295)
    (sym (link_same c.args.links.now c.loop-link.links c.loop-link.link-index d c.loop-link.invariant.1))
    (c.requires c.loop-link.link-index d (omega (arith, c.loop-link-test.true)))

pub loop-link-preserved : goal.loop-link-preserved
loop-link-preserved c =
    let d : PackedLink = record { parent = 0; number = 0 } in
    let low : c.loop-link.link-index < length c.args.links.now = omega (arith, c.loop-link-test.true) in
    let old : PackedLink = get_or c.loop-link.links c.loop-link.link-index d in
    let next : PackedLink = record { parent = c.later_parent-link.result; number = old.number } in (
      links_more (with_later_parent c.args.at) c.args.links.now c.loop-link.links c.loop-link.link-index next d low
          c.loop-link.invariant.0
          (ap (λ (n : ℕ). let h : ParentLink = record { parent = n; number = old.number } in h)
          c.later_parent-link.ensures),
      rest_more c.args.links.now c.loop-link.links c.loop-link.link-index next c.loop-link.invariant.1,
    )
