use Rattle.std.proofs.Common.{◌≡◌, ◌≤◌, ◌-◌, false, length}
use Rattle.std.specs.Io.KnownBytes.{Consumes, prepend_known}
use Rattle.keep_commands.proofs.run.read_up_to.Given as goal

abbrev pub invariant-loop-bytes : goal.invariant-loop-bytes
invariant-loop-bytes g l = record {
  fresh : l.input.failed ≡ false;
  calls : l.input.calls ≤ length l.bytes.items;
  most : length l.bytes.items ≤ l.most;
  taken : Consumes (prepend_known l.fn.bytes.items (g.R.Read.remaining l.fn.input.inner))
      (g.R.Read.remaining l.input.inner) l.bytes.items;
}

abbrev pub decreases-loop-bytes : goal.decreases-loop-bytes
decreases-loop-bytes g l = l.most - length l.bytes.items
