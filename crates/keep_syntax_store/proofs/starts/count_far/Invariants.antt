use Rattle.std.proofs.Common.{◌≡◌, ◌≤◌, ◌+◌, length}
use Rattle.keep_syntax_store.specs.Starts.{fars}
use Rattle.keep_syntax_store.proofs.starts.count_far.Given as goal

abbrev pub invariant-steps : goal.invariant-steps
invariant-steps l = record {
  counted : l.count + fars l.left ≡ fars l.steps;
  bounded : l.count + length l.left ≤ length l.steps;
}

abbrev pub decreases-steps : goal.decreases-steps
decreases-steps l = length l.left
