-- The children of the nodes so far come before the end.
use Rattle.std.proofs.Common.{ℕ, ◌<◌, ◌≤◌}
use Rattle.keep_index_store.specs.Below.{HasChildrenBefore}
use Rattle.keep_index_store.proofs.nodes.Nodes.none_below_after.Given as goal

abbrev pub invariant-loop-node : goal.invariant-loop-node
invariant-loop-node l = (i : ℕ) → l.id ≤ i → i < l.node → HasChildrenBefore l.self.items i l.end
