-- What is left from the place on ends where the whole ends.
use Rattle.std.proofs.Common.{◌≡◌, ◌-◌, ◌≤◌, length}
use Rattle.keep_token.proofs.StringScans.{ml_basic_reach}
use Rattle.keep_token.proofs.basic.ml_basic_len.Given as goal

abbrev pub invariant-loop-profile : goal.invariant-loop-profile
invariant-loop-profile l = record {
  within : l.at ≤ length l.bytes;
  preserved : ml_basic_reach l.profile l.bytes 3 ≡ ml_basic_reach l.profile l.bytes l.at;
}

abbrev pub decreases-loop-profile : goal.decreases-loop-profile
decreases-loop-profile l = length l.bytes - l.at
