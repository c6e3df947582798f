use Rattle.std.proofs.Common.{◌<◌, length, arith}
use Rattle.keep_index_store.specs.declared.links.PackedLink.{PackedLink}
use Rattle.keep_index_store.specs.Removed.{earlier_link}
use Rattle.keep_index_store.proofs.MovedLinkLemmas.{links_more}
use Rattle.keep_index_store.proofs.links.renumber_earlier.Goals as goal

pub loop-link-preserved : goal.loop-link-preserved
loop-link-preserved c =
    let d : PackedLink = record { parent = 0; number = 0 } in
    let low : c.loop-link.link-index < length c.args.links.now = omega (arith, c.loop-link-test.true) in
    links_more (earlier_link c.args.at c.args.gone) c.args.links.now c.loop-link.links c.loop-link.link-index
    c.link_without.result d low c.loop-link.invariant c.link_without.ensures
