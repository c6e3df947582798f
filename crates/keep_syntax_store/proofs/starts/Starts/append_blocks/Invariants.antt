use Rattle.std.proofs.Common.{◌≡◌, ◌≤◌, ◌-◌, ◌++◌, map, slice_range}
use Rattle.keep_syntax_store.specs.Left.{IsPast}
use Rattle.keep_syntax_store.specs.Lifted.{moved}
use Rattle.keep_syntax_store.proofs.starts.Starts.append_blocks.Given as goal

abbrev pub invariant-runs : goal.invariant-runs
invariant-runs l = record {
  begun : l.from ≤ l.number;
  bounded : l.number - l.to ≤ l.from - l.to;
  past : IsPast l.other l.number l.left;
  stored : l.self ≡ l.fn.self ++ map (moved l.old l.new) (slice_range l.other l.from l.number);
}

abbrev pub decreases-runs : goal.decreases-runs
decreases-runs l = l.to - l.number
