-- The numbers of the nodes before this one can be moved.
use Rattle.std.proofs.Common.{ℕ, ◌<◌, get_or}
use Rattle.keep_index_store.specs.declared.nodes.Node.{Node as StoredNode}
use Rattle.keep_index_store.specs.Shifting.{CanShift}
use Rattle.keep_index_store.proofs.nodes.shifting.can_shift_all.Given as goal

abbrev pub invariant-loop-node : goal.invariant-loop-node
invariant-loop-node l = (k : ℕ) (d : StoredNode) → k < l.node-index → CanShift l.by (get_or l.nodes k d).facts
