-- A value is found where the text is an integer.
use Rattle.keep_token.proofs.IntegerLaws.{integer_of_some}
use Rattle.keep_token.proofs.numbers.integer_of.Goals as goal

pub returns-clause-found : goal.returns-clause-found
returns-clause-found c =
    integer_of_some c.integer_value.result c.args.text.now (rw c.as_bytes.ensures.value at c.integer_value.ensures)
