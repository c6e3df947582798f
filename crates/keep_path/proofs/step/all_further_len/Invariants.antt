use Rattle.std.proofs.Common.{◌≡◌, ◌-◌, ◌^◌, length, take, map, min}
use Rattle.std.specs.List.{flat_map}
use Rattle.keep_path.specs.PathText.{part_text}
use Rattle.keep_path.specs.Step.{part_of}
use Rattle.keep_path.proofs.step.all_further_len.Given as goal

abbrev pub invariant-loop-step : goal.invariant-loop-step
invariant-loop-step l = l.len ≡ min (length (flat_map part_text (map part_of (take l.step-index l.steps)))) (2 ^ 64 - 1)
