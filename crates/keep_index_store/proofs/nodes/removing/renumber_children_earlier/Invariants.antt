-- The nodes before this one have their children's new numbers.
use Rattle.std.proofs.Common.{◌≡◌, ◌++◌, map, take, drop}
use Rattle.keep_index_store.specs.Removed.{with_earlier_children}
use Rattle.keep_index_store.proofs.nodes.removing.renumber_children_earlier.Given as goal

abbrev pub invariant-loop-node : goal.invariant-loop-node
invariant-loop-node l =
    l.list ≡ map (with_earlier_children l.at) (take l.node-index l.fn.list) ++ drop l.node-index l.fn.list
