use Rattle.keep_meaning.proofs.MeaningLaws.{string_value_is_meaning}
use Rattle.keep_meaning.proofs.laws.string_value_is_meaning.Goals as goal

pub returns : goal.returns
returns c = string_value_is_meaning
