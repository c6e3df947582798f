-- The child before `low` comes before, and that at `high` does not.
use Rattle.std.proofs.Common.{◌+◌, ◌<◌, ◌≤◌, ◌-◌, get_or, length}
use Rattle.keep_index_store.specs.AllNodes.{node_at}
use Rattle.keep_index_store.specs.Children.{child_ids}
use Rattle.keep_index_store.proofs.nodes.Nodes.children_before.Given as goal

abbrev pub invariant-loop-low : goal.invariant-loop-low
invariant-loop-low l =
    (l.low ≤ l.high)
    × (l.high < length (child_ids (node_at l.self.items l.id).children))
    × (0 < l.low → get_or (child_ids (node_at l.self.items l.id).children) (l.low - 1) 0 < l.at)
    × (l.high + 1 < length (child_ids (node_at l.self.items l.id).children)
    → l.at ≤ get_or (child_ids (node_at l.self.items l.id).children) l.high 0)

abbrev pub decreases-loop-low : goal.decreases-loop-low
decreases-loop-low l = l.high - l.low
