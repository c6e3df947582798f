-- A header or a line as the last statement: what is known of the nodes with it, by what was known without it.
use Rattle.std.specs.Prelude.{◌≡◌, ◌^◌, ◌<◌, ⊤, false, [], length}
use Rattle.keep_syntax.specs.Numbered.{parts}
use Rattle.keep_syntax.specs.Tree.{Document}
use Rattle.keep_meaning.specs.LinesMore.{HasLineMore, node_infos, numbers_after, path_after}
use Rattle.keep_meaning.specs.Marks.{Statement, header, element_header, keyval}
use Rattle.keep_meaning.specs.Meaning.{mentions_in}
use Rattle.keep_meaning.specs.Nodes.{fact_kind, is_node}
use Rattle.keep_meaning.specs.StatementsMore.{HasStatementMore, said_next}
use Rattle.keep_path.specs.NodeInfos.{line_info, with_last}
use Rattle.keep_rules.specs.MentionInfos.{with_mentions}

-- the statement is a header, `[..]` or `[[..]]`
abbrev pub IsHeader : Statement → Type 0
IsHeader (header keys) = ⊤
IsHeader (element_header keys) = ⊤
IsHeader (keyval nested) = ⊥

-- With a header more, at the end, the facts about the nodes are those of before, with what the header says. The key
-- parts are so few that a machine word counts them, as it does where a text was read.
abbrev pub StatementIsKnown : Type 0
StatementIsKnown =
    (d more : Document) (s : Statement) → IsHeader s → HasStatementMore d s more → length (parts more) < 2 ^ 64
    → node_infos more ≡ with_mentions (node_infos d) (said_next d s)

-- With a line more, at the end, a keyval of one key part with a new path and with nothing in its value, the facts about
-- the nodes are those of before, and after them those about the line's node.
abbrev pub LastLineIsKnown : Type 0
LastLineIsKnown =
    (d more : Document) (line : HasLineMore d more) → line.after ≡ []
    → is_node (path_after line.before line.text) (mentions_in d) ≡ false → length (parts more) < 2 ^ 64
    → node_infos more ≡ with_last (node_infos d) (path_after line.before line.text)
    (line_info (numbers_after line.before) (fact_kind line.fact))
