-- The parents of the nodes so far are not before the node.
use Rattle.std.proofs.Common.{ℕ, ◌-◌, ◌<◌, ◌≤◌, length}
use Rattle.keep_index_store.specs.AllNodes.{node_at}
use Rattle.keep_index_store.proofs.nodes.Nodes.end_below.Given as goal

abbrev pub invariant-loop-end : goal.invariant-loop-end
invariant-loop-end l = record {
  order : l.id < l.end;
  within : l.end ≤ length l.self.items;
  below : (j : ℕ) → l.id < j → j < l.end → l.id ≤ (node_at l.self.items j).parent;
}

abbrev pub decreases-loop-end : goal.decreases-loop-end
decreases-loop-end l = length l.self.items - l.end
