-- Up to here the text has keys alone.
use Rattle.std.proofs.Common.{length, ◌-◌}
use Rattle.std.specs.Prelude.{IsCharBoundary}
use Rattle.keep_path.proofs.FirstIndexLaws.{KeysSoFar}
use Rattle.keep_path.proofs.path.Path.first_index.Given as goal

abbrev pub invariant-loop-at : goal.invariant-loop-at
invariant-loop-at l = record {
  cut : IsCharBoundary l.text l.at;
  so_far : KeysSoFar l.text l.at;
}

abbrev pub decreases-loop-at : goal.decreases-loop-at
decreases-loop-at l = length l.text - l.at
