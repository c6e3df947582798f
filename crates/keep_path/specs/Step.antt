-- What a step of the program means.
use Rattle.std.specs.String.{string_bytes}
use Rattle.keep_path.specs.declared.step.Step.{Step}
use Rattle.keep_path.specs.declared.step.Step.TheVariants.{Key, Index}
use Rattle.keep_path.specs.Path.{Part, key, index}

abbrev pub part_of : Step → Part
part_of (Key text) = key (string_bytes text)
part_of (Index n) = index n
