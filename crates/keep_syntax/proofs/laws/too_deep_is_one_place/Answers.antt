use Rattle.keep_syntax.proofs.TooDeepLaws.{one_value_place}
use Rattle.keep_syntax.proofs.TooDeepLineLaws.{one_document_place}
use Rattle.keep_syntax.proofs.laws.too_deep_is_one_place.Goals as goal

pub returns-clause-document : goal.returns-clause-document
returns-clause-document c = one_document_place

pub returns-clause-value : goal.returns-clause-value
returns-clause-value c = one_value_place
