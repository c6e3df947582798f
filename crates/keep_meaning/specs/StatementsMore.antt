-- One statement more, after all others: what it says, and what the document then says.
use Rattle.std.specs.Prelude.{◌≡◌, ℕ, List, [], ◌∷◌, ◌++◌}
use Rattle.keep_syntax.specs.Tree.{Document}
use Rattle.keep_meaning.specs.Marks.{Reading, Statement, reading_after, start, statement_mentions}
use Rattle.keep_meaning.specs.Counts.{Count, Numbered, count_from, no_count, numbered_mentions, statements_in}

-- the second document has this statement more, as its last
abbrev pub HasStatementMore : Document → Statement → Document → Type 0
HasStatementMore d s more = statements_in more ≡ statements_in d ++ s ∷ []

-- how far the reading of a document has come at its end, and what is counted there
abbrev pub reading_at_end : Document → Reading
reading_at_end d = reading_after start (statements_in d)

abbrev pub count_at_end : Document → Count
count_at_end d = count_from no_count start (statements_in d)

-- what a statement says there, with its numbers
abbrev pub said_next : Document → Statement → List Numbered
said_next d s = numbered_mentions (count_at_end d) (statement_mentions (reading_at_end d) s)

-- the numbers of a statement there, and of its first key part
pub record AreNumbersAtEnd (d : Document) (statement key : ℕ) : Type 0 where
  pub statements : (count_at_end d).statements ≡ statement
  pub keys : (count_at_end d).keys ≡ key
