-- The nodes of a document with another value in the place of one are nested as its headers say.
use Rattle.std.specs.Prelude.{List}
use Rattle.keep_syntax.specs.Tree.{Document, Value}
use Rattle.keep_meaning.specs.Marks.{marks}
use Rattle.keep_meaning.specs.Meaning.{mentions_in}
use Rattle.keep_meaning.specs.OtherValues.{HasOtherValue}
use Rattle.keep_meaning.specs.Rules.{ObeysRules}
use Rattle.keep_path.specs.Path.{Part}
use Rattle.keep_rules.specs.LinesNested.{NodesAreNested}

-- Another value in the place of one leaves the nodes nested.
abbrev pub ValueIsNested : Type 0
ValueIsNested =
    (d other : Document) (path : List Part) (v : Value) → HasOtherValue d other path v
    → ObeysRules (marks (mentions_in d)) → ObeysRules (marks (mentions_in other))
    → NodesAreNested d → NodesAreNested other
