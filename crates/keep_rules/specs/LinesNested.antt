-- The nodes of a document with one line more are nested as its headers say, and so are those of the one without it.
use Rattle.std.specs.Prelude.{◌≡◌, ℕ, false, List, []}
use Rattle.keep_syntax.specs.Tree.{Document}
use Rattle.keep_meaning.specs.Counts.{statements_in}
use Rattle.keep_meaning.specs.DotsMore.{AreDotted, HasDotsMore, new_path, passed_paths}
use Rattle.keep_meaning.specs.KeysMore.{HasKeysMore, IsUnsaid}
use Rattle.keep_meaning.specs.LinesMore.{HasLineMore, nodes_after, path_after}
use Rattle.keep_meaning.specs.Marks.{marks, reading_after, start}
use Rattle.keep_meaning.specs.Meaning.{mentions_in}
use Rattle.keep_meaning.specs.Nodes.{children, is_node, node_paths}
use Rattle.keep_meaning.specs.Rules.{ObeysRules}
use Rattle.keep_rules.specs.Nested.{AreNested}

abbrev pub NodesAreNested : Document → Type 0
NodesAreNested d = AreNested (mentions_in d) (reading_after start (statements_in d)).tables

-- A line more, of a new path, leaves the nodes nested.
abbrev pub LineIsNested : Type 0
LineIsNested =
    (d more : Document) (line : HasLineMore d more) → is_node (path_after line.before line.text) (mentions_in d) ≡ false
    → ObeysRules (marks (mentions_in d)) → NodesAreNested d → NodesAreNested more

-- So does taking it away, where no node is below its own.
abbrev pub LineLeavesNested : Type 0
LineLeavesNested =
    (d more : Document) (line : HasLineMore d more) → is_node (path_after line.before line.text) (mentions_in d) ≡ false
    → ObeysRules (marks (mentions_in d))
    → children (path_after line.before line.text) (node_paths (mentions_in more)) ≡ [] → NodesAreNested more
    → NodesAreNested d

-- A line more of several keys, of which the first has an unsaid path, leaves the nodes nested.
abbrev pub KeysAreNested : Type 0
KeysAreNested =
    (d more : Document) (line : HasKeysMore d more) → IsUnsaid d (path_after line.before line.first)
    → ObeysRules (marks (mentions_in d)) → NodesAreNested d → NodesAreNested more

-- So does taking it away.
abbrev pub KeysLeaveNested : Type 0
KeysLeaveNested =
    (d more : Document) (line : HasKeysMore d more) → IsUnsaid d (path_after line.before line.first)
    → ObeysRules (marks (mentions_in d)) → NodesAreNested more → NodesAreNested d

-- A line more that passes tables of dotted keys, and whose first new key has an unsaid path, leaves the nodes nested.
abbrev pub DotsAreNested : Type 0
DotsAreNested =
    (d more : Document) (line : HasDotsMore d more) (ids : List ℕ)
    → AreDotted d (nodes_after line.before) (passed_paths line.before line.passed) ids
    → IsUnsaid d (new_path line.before line.passed line.first) → ObeysRules (marks (mentions_in d))
    → NodesAreNested d → NodesAreNested more

-- So does taking it away.
abbrev pub DotsLeaveNested : Type 0
DotsLeaveNested =
    (d more : Document) (line : HasDotsMore d more) (ids : List ℕ)
    → AreDotted d (nodes_after line.before) (passed_paths line.before line.passed) ids
    → IsUnsaid d (new_path line.before line.passed line.first) → ObeysRules (marks (mentions_in d))
    → NodesAreNested more → NodesAreNested d
