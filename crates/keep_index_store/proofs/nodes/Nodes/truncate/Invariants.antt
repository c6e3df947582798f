use Rattle.std.proofs.Common.{◌≡◌, length, take}
use Rattle.keep_index_store.proofs.nodes.Nodes.truncate.Given as goal

-- what stays has not changed
abbrev pub invariant-loop-self : goal.invariant-loop-self
invariant-loop-self l = take l.count l.self.items ≡ take l.count l.fn.self.items

abbrev pub decreases-loop-self : goal.decreases-loop-self
decreases-loop-self l = length l.self.items
