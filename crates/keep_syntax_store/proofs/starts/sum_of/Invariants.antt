use Rattle.std.proofs.Common.{◌≡◌, ◌≤◌, ◌*◌, take}
use Rattle.std.specs.Prelude.{sum}
use Rattle.keep_syntax_store.proofs.starts.sum_of.Given as goal

abbrev pub invariant-steps : goal.invariant-steps
invariant-steps l = record {
  leads : l.distance ≡ sum (take l.step-index l.steps);
  bounded : l.distance ≤ 255 * l.step-index;
}
