-- What is left from the place on ends where the whole ends.
use Rattle.std.proofs.Common.{◌≡◌, ◌-◌, ◌≤◌, length}
use Rattle.keep_token.proofs.StringScans.{ml_literal_reach}
use Rattle.keep_token.proofs.literal.ml_literal_len.Given as goal

abbrev pub invariant-loop-at : goal.invariant-loop-at
invariant-loop-at l = record {
  within : l.at ≤ length l.bytes;
  preserved : ml_literal_reach l.bytes 3 ≡ ml_literal_reach l.bytes l.at;
}

abbrev pub decreases-loop-at : goal.decreases-loop-at
decreases-loop-at l = length l.bytes - l.at
