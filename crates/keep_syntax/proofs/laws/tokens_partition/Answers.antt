use Rattle.keep_syntax.proofs.PlaceLaws.{tokens_text}
use Rattle.keep_syntax.proofs.LawLaws.{tokens_part}
use Rattle.keep_syntax.proofs.laws.tokens_partition.Goals as goal

pub returns-clause-joined : goal.returns-clause-joined
returns-clause-joined c = tokens_text

pub returns-clause-parts : goal.returns-clause-parts
returns-clause-parts c = tokens_part
