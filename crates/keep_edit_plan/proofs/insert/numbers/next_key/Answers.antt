use Rattle.std.proofs.Common.{length}
use Rattle.keep_syntax.specs.Contract.{parts_of, statements_of}
use Rattle.keep_edit_plan.proofs.LineNumberLaws.{key_here}
use Rattle.keep_edit_plan.proofs.insert.numbers.next_key.Goals as goal

pub returns-then-statement-statement_count : goal.returns-then-statement-statement_count
returns-then-statement-statement_count c =
    key_here (length (parts_of c.args.syntax.now)) _ _ (statements_of c.args.syntax.now) c.statement.ensures
