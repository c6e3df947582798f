use Rattle.std.proofs.Common.{length, ◌-◌, ◌≡◌, ◌≤◌, false, take}
use Rattle.std.specs.Io.KnownBytes.{Appends}
use Rattle.keep_commands.proofs.write.write_after.Given as goal

abbrev pub invariant-loop-at : goal.invariant-loop-at
invariant-loop-at g l = record {
  fresh : l.output.failed ≡ false;
  most : l.at ≤ length l.bytes;
  written : Appends (g.W.Write.contents l.fn.output.inner) (g.W.Write.contents l.output.inner) (take l.at l.bytes);
  silent : l.at ≡ 0 → l.output.calls ≡ l.fn.output.calls;
}

abbrev pub decreases-loop-at : goal.decreases-loop-at
decreases-loop-at g l = length l.bytes - l.at
