-- The numbers of the nodes so far have 32 bits at most.
use Rattle.std.proofs.Common.{ℕ, ◌<◌, get_or}
use Rattle.keep_types.specs.declared.node.NodeInfo.{NodeInfo}
use Rattle.keep_index_store.specs.DotsLess.{HasSmallValue}
use Rattle.keep_index_store.proofs.tree.Tree.has_small_values.Given as goal

abbrev pub invariant-loop-id : goal.invariant-loop-id
invariant-loop-id l = (k : ℕ) (d : NodeInfo) → k < l.id → HasSmallValue (get_or l.self.infos k d)
