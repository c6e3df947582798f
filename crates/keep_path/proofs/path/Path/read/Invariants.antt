-- What is read so far tells the steps, and each path of the text continues from there.
use Rattle.std.proofs.Common.{map, length, ◌-◌}
use Rattle.std.specs.Prelude.{IsCharBoundary}
use Rattle.keep_path.specs.Step.{part_of}
use Rattle.keep_path.proofs.PathReadLaws.{SoFar}
use Rattle.keep_path.proofs.StopLaws.{PathGoesOn}
use Rattle.keep_path.proofs.path.Path.read.Given as goal

abbrev pub invariant-loop-at : goal.invariant-loop-at
invariant-loop-at l = record {
  cut : IsCharBoundary l.text l.at;
  so_far : SoFar l.text (map part_of l.steps.items) l.at;
  on : PathGoesOn l.text l.at;
}

abbrev pub decreases-loop-at : goal.decreases-loop-at
decreases-loop-at l = length l.text - l.at
