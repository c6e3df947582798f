-- The links before this one have their new numbers.
use Rattle.std.proofs.Common.{◌≡◌, ◌++◌, List, map, take, drop}
use Rattle.keep_index_store.specs.declared.links.ParentLink.{ParentLink}
use Rattle.keep_index_store.specs.Links.{link_of}
use Rattle.keep_index_store.specs.Removed.{earlier_link}
use Rattle.keep_index_store.proofs.links.renumber_earlier.Given as goal

abbrev pub invariant-loop-link : goal.invariant-loop-link
invariant-loop-link l =
    let old : List ParentLink = map link_of l.fn.links in
    map link_of l.links ≡ map (earlier_link l.at l.gone) (take l.link-index old) ++ drop l.link-index old
