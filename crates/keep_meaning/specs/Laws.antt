-- What holds of every string and every document, whatever is read.
use Rattle.std.specs.Prelude.{◌≡◌, ℕ, ◌+◌, ◌<◌, ◌≤◌, ◌↔◌, false, IsTrue, List, length, slice_index_or}
use Rattle.keep_types.specs.declared.leaf.Leaf.{Leaf}
use Rattle.keep_types.specs.declared.leaf.Profile.{Profile}
use Rattle.keep_types.specs.declared.leaf.Profile.TheVariants.{Strict}
use Rattle.keep_token.specs.Leaves.{IsLeaf, Means, is_string_leaf}
use Rattle.keep_syntax.specs.Tree.{Document, text}
use Rattle.keep_syntax.specs.Grammar.{IsDocument, Reads}
use Rattle.keep_path.specs.NodeInfos.{no_info, with_node, without_node}
use Rattle.keep_meaning.specs.LinesMore.{HasLineMore, path_after, numbers_after, nodes_after, node_infos}
use Rattle.keep_meaning.specs.LinesMore.{is_met_from}
use Rattle.keep_meaning.specs.Marks.{marks}
use Rattle.keep_meaning.specs.Meaning.{mentions_in, string_value}
use Rattle.keep_meaning.specs.Nodes.{fact_kind, infos_in, is_node, nodes_in}
use Rattle.keep_meaning.specs.Rules.{ObeysRules}

-- A string or a key part means, by its pieces, what `string_value` computes of its text, and nothing else.
abbrev pub StringValueIsMeaning : Type 0
StringValueIsMeaning =
    (profile : Profile) (leaf : Leaf) (text value : List ℕ) → IsTrue (is_string_leaf leaf) → IsLeaf profile leaf text
    → Means profile leaf text value ↔ (value ≡ string_value leaf text)

-- A text of so many bytes has at most one node more.
abbrev pub NodesAreFew : Type 0
NodesAreFew =
    (profile : Profile) (limit : ℕ) (bytes : List ℕ) (d : Document) → Reads profile limit bytes d
    → length (nodes_in d) ≤ length bytes + 1

-- The text of no bytes has as many.
abbrev pub NodesReachBound : Type 0
NodesReachBound = (d : Document) × IsDocument Strict d × (length (text d) ≡ 0) × (length (nodes_in d) ≡ 1)

-- A line more, of a new path, gives one node more, after the nodes that are met before the line.
abbrev pub LineAddsNode : Type 0
LineAddsNode =
    (d more : Document) (line : HasLineMore d more) → is_node (path_after line.before line.text) (mentions_in d) ≡ false
    → node_infos more
    ≡ with_node (node_infos d) (nodes_after line.before) (numbers_after line.before) (path_after line.before line.text)
    (fact_kind line.fact)

-- Without it the nodes are those that were.
abbrev pub LineTakesNode : Type 0
LineTakesNode =
    (d more : Document) (line : HasLineMore d more) → is_node (path_after line.before line.text) (mentions_in d) ≡ false
    → node_infos d ≡ without_node (node_infos more) (nodes_after line.before) (numbers_after line.before)

-- The place of the line's node is found by the facts about the others: from there on they are first met after the line.
abbrev pub LineIsFound : Type 0
LineIsFound =
    (d more : Document) (line : HasLineMore d more) → ObeysRules (marks (mentions_in d))
    → (nodes_after line.before ≤ length (infos_in d))
    × ((i : ℕ) → i < length (infos_in d) → (nodes_after line.before ≤ i)
    ↔ IsTrue (is_met_from (numbers_after line.before) (slice_index_or (infos_in d) i no_info)))
