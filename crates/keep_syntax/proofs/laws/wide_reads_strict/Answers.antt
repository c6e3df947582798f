use Rattle.keep_syntax.proofs.WiderLaws.{reads_wider, reads_value_wider}
use Rattle.keep_syntax.proofs.laws.wide_reads_strict.Goals as goal

pub returns-clause-documents : goal.returns-clause-documents
returns-clause-documents c = reads_wider

pub returns-clause-values : goal.returns-clause-values
returns-clause-values c = reads_value_wider
