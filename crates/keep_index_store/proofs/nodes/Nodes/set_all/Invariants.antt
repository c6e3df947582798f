-- The last nodes have their facts, and those that are left are of nodes that are there.
use Rattle.std.proofs.Common.{◌≡◌, ◌<◌, length, vec_len}
use Rattle.std.specs.List.{AllByRecursion}
use Rattle.keep_index_store.specs.Joined.{with_all_facts}
use Rattle.keep_index_store.proofs.nodes.Nodes.set_all.Given as goal

abbrev pub invariant-loop-id : goal.invariant-loop-id
invariant-loop-id l = record {
  within : AllByRecursion (λ e. e.0 < length l.self.items) l.all.items;
  stored : with_all_facts l.self.items l.all.items ≡ with_all_facts l.fn.self.items l.fn.all.items;
}

abbrev pub decreases-loop-id : goal.decreases-loop-id
decreases-loop-id l = vec_len l.all
