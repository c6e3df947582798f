use Rattle.keep_syntax.proofs.DocumentLaws.{one_document}
use Rattle.keep_syntax.proofs.laws.one_document.Goals as goal

pub returns : goal.returns
returns c = one_document
