-- The facts of the nodes before this one are joined.
use Rattle.std.proofs.Common.{◌≡◌, take}
use Rattle.keep_index_store.specs.Joined.{each_joined}
use Rattle.keep_index_store.proofs.nodes.Nodes.joined_all.Given as goal

abbrev pub invariant-loop-join : goal.invariant-loop-join
invariant-loop-join l = l.all.items ≡ each_joined l.self.items (take l.join-index l.joins)
