-- The nodes before this one have their new numbers.
use Rattle.std.proofs.Common.{◌≡◌, ◌++◌, map, take, drop}
use Rattle.keep_index_store.specs.Below.{with_shifted_stored}
use Rattle.keep_index_store.proofs.nodes.shifting.lower_each.Given as goal

abbrev pub invariant-loop-node : goal.invariant-loop-node
invariant-loop-node l =
    l.nodes ≡ map (with_shifted_stored l.fn.by) (take l.node-index l.fn.nodes) ++ drop l.node-index l.fn.nodes
