use Rattle.std.proofs.Common.{◌≡◌, ◌+◌, ◌-◌, ◌≤◌, length, drop}
use Rattle.std.specs.List.{prefix_len}
use Rattle.keep_token.specs.Abnf.{is_ws}
use Rattle.keep_token.proofs.blocks.ws_by_blocks.Given as goal

abbrev pub invariant-loop-end : goal.invariant-loop-end
invariant-loop-end l =
    (prefix_len is_ws l.bytes ≡ l.end + prefix_len is_ws (drop l.end l.bytes)) × (l.end ≤ length l.bytes)

abbrev pub decreases-loop-end : goal.decreases-loop-end
decreases-loop-end l = length l.bytes - l.end
