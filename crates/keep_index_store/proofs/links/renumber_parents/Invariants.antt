-- The links before this one have their new numbers, and the others are as they were.
use Rattle.std.proofs.Common.{◌≡◌, ◌++◌, map, take, drop}
use Rattle.keep_index_store.specs.Links.{link_of}
use Rattle.keep_index_store.specs.Moved.{with_later_parent}
use Rattle.keep_index_store.proofs.links.renumber_parents.Given as goal

abbrev pub invariant-loop-link : goal.invariant-loop-link
invariant-loop-link l =
    (map link_of l.links ≡ map (with_later_parent l.at) (take l.link-index (map link_of l.fn.links))
    ++ drop l.link-index (map link_of l.fn.links))
    × (drop l.link-index l.links ≡ drop l.link-index l.fn.links)
