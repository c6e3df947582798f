-- The nodes before this one have their children's new numbers, and the others are as they were.
use Rattle.std.proofs.Common.{◌≡◌, ◌++◌, map, take, drop}
use Rattle.keep_index_store.specs.Replacing.{with_shifted_children}
use Rattle.keep_index_store.proofs.nodes.taking_in.shift_children.Given as goal

abbrev pub invariant-loop-node : goal.invariant-loop-node
invariant-loop-node l =
    l.list ≡ map (with_shifted_children l.by) (take l.node-index l.fn.list) ++ drop l.node-index l.fn.list
