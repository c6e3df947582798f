use Rattle.std.proofs.Common.{◌<◌, length, map, sym, arith}
use Rattle.keep_index_store.specs.declared.links.PackedLink.{PackedLink}
use Rattle.keep_index_store.specs.Links.{link_of}
use Rattle.keep_index_store.specs.Replacing.{shifted_link}
use Rattle.keep_index_store.proofs.MovedLinkLemmas.{links_more, rest_more}
use Rattle.keep_index_store.proofs.SameCountLemmas.{links_same}
use Rattle.keep_index_store.proofs.ShiftedLinkLemmas.{can_here}
use Rattle.keep_index_store.proofs.links.replacing.shift_links.Goals as goal

pub shift_link-requires : goal.shift_link-requires
shift_link-requires c =
    let none : PackedLink = record { parent = 0; number = 0 } in
    let low : c.loop-link.link-index < length c.args.links.now = omega (arith, c.loop-link-test.true) in
    can_here c.args.by c.args.links.now _ c.loop-link.link-index none c.requires c.loop-link.invariant.1 low

pub loop-link-preserved : goal.loop-link-preserved
loop-link-preserved c =
    let none : PackedLink = record { parent = 0; number = 0 } in
    let old = c.args.links.now in
    let links = c.loop-link.links in
    let i = c.loop-link.link-index in
    let low : i < length old = omega (arith, c.loop-link-test.true) in (
      links_more (shifted_link c.args.by) old links i c.shift_link.new.link none low c.loop-link.invariant.0
          c.shift_link.ensures,
      rest_more old links i c.shift_link.new.link c.loop-link.invariant.1,
    )

pub returns-then-by : goal.returns-then-by
returns-then-by c = sym (links_same c.args.by c.if-by.true (map link_of c.args.links.now))
