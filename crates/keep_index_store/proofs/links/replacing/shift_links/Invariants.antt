-- The links before this one have their parent's new number, and the others are as they were.
use Rattle.std.proofs.Common.{◌≡◌, ◌++◌, List, map, take, drop}
use Rattle.keep_index_store.specs.declared.links.ParentLink.{ParentLink}
use Rattle.keep_index_store.specs.Links.{link_of}
use Rattle.keep_index_store.specs.Replacing.{shifted_link}
use Rattle.keep_index_store.proofs.links.replacing.shift_links.Given as goal

abbrev pub invariant-loop-link : goal.invariant-loop-link
invariant-loop-link l =
    let old : List ParentLink = map link_of l.fn.links in
    (map link_of l.links ≡ map (shifted_link l.by) (take l.link-index old) ++ drop l.link-index old)
    × (drop l.link-index l.links ≡ drop l.link-index l.fn.links)
