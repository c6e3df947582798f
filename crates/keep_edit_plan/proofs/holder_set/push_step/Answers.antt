use Rattle.std.proofs.Common.{ap}
use Rattle.keep_path.specs.Step.{part_of}
use Rattle.keep_edit_plan.proofs.holder_set.push_step.Goals as goal

pub push_index-requires : goal.push_index-requires
push_index-requires c = c.requires c.in-Index.number (ap part_of c.in-Index.is)
