-- The node of the line comes from `low` on, and not after `high`.
use Rattle.std.proofs.Common.{ℕ, ◌-◌, ◌≤◌, length}
use Rattle.keep_index_store.specs.Renumbering.{numbers_of}
use Rattle.keep_rules.specs.LinePlaces.{IsPlaceOf}
use Rattle.keep_rules.proofs.index.lines.first_met_from.Given as goal

abbrev pub invariant-loop-low : goal.invariant-loop-low
invariant-loop-low l =
    (l.high ≤ length l.nodes.trie) × (l.low ≤ l.high)
    × ((at : ℕ) → IsPlaceOf (numbers_of l.line) l.nodes.infos at → (l.low ≤ at) × (at ≤ l.high))

abbrev pub decreases-loop-low : goal.decreases-loop-low
decreases-loop-low l = l.high - l.low
