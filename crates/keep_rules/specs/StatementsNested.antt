-- A header as the last statement: the nodes with it are nested as the headers say.
use Rattle.keep_syntax.specs.Tree.{Document}
use Rattle.keep_meaning.specs.Marks.{Statement, marks}
use Rattle.keep_meaning.specs.Meaning.{mentions_in}
use Rattle.keep_meaning.specs.Rules.{ObeysRules}
use Rattle.keep_meaning.specs.StatementsMore.{HasStatementMore}
use Rattle.keep_rules.specs.LinesNested.{NodesAreNested}
use Rattle.keep_rules.specs.StatementsKnown.{IsHeader}

-- A header more, at the end, that the rules allow leaves the nodes nested.
abbrev pub StatementIsNested : Type 0
StatementIsNested =
    (d more : Document) (s : Statement) → IsHeader s → HasStatementMore d s more → ObeysRules (marks (mentions_in more))
    → NodesAreNested d → NodesAreNested more
