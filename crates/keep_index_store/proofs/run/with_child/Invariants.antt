-- The vector has the children before this one.
use Rattle.std.proofs.Common.{◌≡◌}
use Rattle.keep_index_store.specs.Runs.{consecutive}
use Rattle.keep_index_store.proofs.run.with_child.Given as goal

abbrev pub invariant-loop-number : goal.invariant-loop-number
invariant-loop-number l = l.children.items ≡ consecutive l.first l.number
