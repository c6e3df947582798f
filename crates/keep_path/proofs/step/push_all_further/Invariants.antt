use Rattle.std.proofs.Common.{◌≡◌, ◌++◌, take, map, string_bytes}
use Rattle.std.specs.List.{flat_map}
use Rattle.keep_path.specs.PathText.{part_text}
use Rattle.keep_path.specs.Step.{part_of}
use Rattle.keep_path.proofs.step.push_all_further.Given as goal

abbrev pub invariant-loop-step : goal.invariant-loop-step
invariant-loop-step l =
    string_bytes l.out ≡ string_bytes l.initial.out ++ flat_map part_text (map part_of (take l.step-index l.steps))
