-- The nodes before this one have their children's new numbers.
use Rattle.std.proofs.Common.{◌≡◌, ◌++◌, map, take, drop}
use Rattle.keep_index_store.specs.Moved.{with_moved_children}
use Rattle.keep_index_store.proofs.nodes.renumber_children.Given as goal

abbrev pub invariant-loop-node : goal.invariant-loop-node
invariant-loop-node l =
    l.list ≡ map (with_moved_children l.last l.at) (take l.node-index l.fn.list) ++ drop l.node-index l.fn.list
