use Rattle.std.proofs.Common.{◌≡◌, ◌+◌, ◌-◌, ◌≤◌, length, drop}
use Rattle.std.specs.List.{prefix_len}
use Rattle.keep_token.specs.Blocks.{is_plain}
use Rattle.keep_token.proofs.blocks.run_by_blocks.Given as goal

abbrev pub invariant-loop-at : goal.invariant-loop-at
invariant-loop-at l =
    (prefix_len (is_plain l.also l.a l.b) l.bytes ≡ l.at + prefix_len (is_plain l.also l.a l.b) (drop l.at l.bytes))
    × (l.at ≤ length l.bytes)

abbrev pub decreases-loop-at : goal.decreases-loop-at
decreases-loop-at l = length l.bytes - l.at
