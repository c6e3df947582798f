-- One line more whose key has several parts: a document that says the same as another, and a keyval that continues by
-- dots from a key that is new.
use Rattle.std.specs.Prelude.{◌≡◌, ℕ, suc, ◌+◌, ◌<◌, ◌≤◌, ◌↔◌, false, IsTrue, List, ◌∷◌, ◌++◌, length, Some}
use Rattle.std.specs.Prelude.{slice_index_or}
use Rattle.keep_types.specs.declared.node.Kind.{Kind}
use Rattle.keep_types.specs.declared.node.Kind.TheVariants as kind
use Rattle.keep_syntax.specs.Numbered.{part_count, value_count}
use Rattle.keep_syntax.specs.Tree.{Document, Entries, Value, none}
use Rattle.keep_path.specs.KeysAlone.{keys_alone}
use Rattle.keep_path.specs.NodeInfos.{NodeInfos, no_info, root_infos, with_table, without_node}
use Rattle.keep_path.specs.NodesBelow.{AreBelow, Totals, one_more, with_value}
use Rattle.keep_path.specs.Path.{Part}
use Rattle.keep_meaning.specs.Counts.{statements_in}
use Rattle.keep_meaning.specs.Fact.{Fact}
use Rattle.keep_meaning.specs.LinesMore.{is_met_from, node_infos, nodes_after, numbers_after, path_after}
use Rattle.keep_meaning.specs.Marks.{Statement, keyval, marks, value}
use Rattle.keep_meaning.specs.Meaning.{entries_mentions, keyed_mentions, mentions_in, valued_mentions}
use Rattle.keep_meaning.specs.Nodes.{fact_kind, infos_in, is_node, node_number}
use Rattle.keep_meaning.specs.OtherValues.{nodes_in_value, totals_of}
use Rattle.keep_meaning.specs.Rules.{ObeysRules}

-- The second document has one line more, which states this fact at the end of these keys, two of them at least, with
-- these entries in the value.
pub record HasKeysMore (d more : Document) : Type 0 where
  pub before : List Statement
  pub after : List Statement
  pub first : List ℕ
  pub next : List ℕ
  pub further : List (List ℕ)
  pub fact : Fact
  pub nested : Entries
  pub old : statements_in d ≡ before ++ after
  pub new : statements_in more
      ≡ before
      ++ keyval (keyed_mentions (first ∷ next ∷ further) (valued_mentions (value fact) (entries_mentions 0 nested)))
      ∷ after
  pub values : (totals_of more).values ≡ suc (totals_of d).values + value_count nested
  pub keys : (totals_of more).keys ≡ (totals_of d).keys + (length (first ∷ next ∷ further) + part_count nested)

-- nothing is said of this path, or of a path below it
abbrev pub IsUnsaid : Document → List Part → Type 0
IsUnsaid d path = (below : List Part) → is_node (path ++ below) (mentions_in d) ≡ false

-- Such a line, where its first key's path is unsaid and nothing is in its value, gives a table for that key, and below
-- it the nodes of the others.
abbrev pub KeysAddNodes : Type 0
KeysAddNodes =
    (d more : Document) (line : HasKeysMore d more) → IsUnsaid d (path_after line.before line.first)
    → line.nested ≡ none
    → node_infos more
    ≡ with_value (with_table (node_infos d) (nodes_after line.before) (numbers_after line.before)
    (path_after line.before line.first))
    (nodes_after line.before) 0 (one_more (totals_of d)) (totals_of more)
    (keys_alone (line.next ∷ line.further) (fact_kind line.fact)) kind.Table

-- the nodes of a line's further keys alone, with those of its value below the last of them
abbrev pub keys_with_value : List (List ℕ) → Kind → NodeInfos → NodeInfos
keys_with_value keys kind inside =
    let none_more : Totals = record { values = 0; keys = 0 } in
    with_value (keys_alone keys kind) (length keys) 0 none_more none_more inside kind

-- With this in its value, it gives the nodes of the value below that of the last key.
abbrev pub KeysAddValueNodes : Type 0
KeysAddValueNodes =
    (d more : Document) (line : HasKeysMore d more) → IsUnsaid d (path_after line.before line.first)
    → (v : Value) → line.nested ≡ v.nested
    → node_infos more
    ≡ with_value (with_table (node_infos d) (nodes_after line.before) (numbers_after line.before)
    (path_after line.before line.first))
    (nodes_after line.before) 0 (one_more (totals_of d)) (totals_of more)
    (keys_with_value (line.next ∷ line.further) (fact_kind line.fact) (nodes_in_value v)) kind.Table

-- Without it the nodes are those that were: its first key's node goes, after all that are below it.
abbrev pub KeysTakeNodes : Type 0
KeysTakeNodes =
    (d more : Document) (line : HasKeysMore d more) → IsUnsaid d (path_after line.before line.first)
    → (node_number (node_infos more).paths (path_after line.before line.first) ≡ Some (nodes_after line.before))
    × ((gone : ℕ) × AreBelow (node_infos more).paths (nodes_after line.before) gone
    × (node_infos d
    ≡ without_node (with_value (node_infos more) (nodes_after line.before) gone (totals_of more)
    (one_more (totals_of d)) root_infos kind.Table)
    (nodes_after line.before) (numbers_after line.before)))

-- The place of the first key's node is found by the facts about the others: from there on they are first met after the
-- line.
abbrev pub KeysAreFound : Type 0
KeysAreFound =
    (d more : Document) (line : HasKeysMore d more) → ObeysRules (marks (mentions_in d))
    → (nodes_after line.before ≤ length (infos_in d))
    × ((i : ℕ) → i < length (infos_in d) → (nodes_after line.before ≤ i)
    ↔ IsTrue (is_met_from (numbers_after line.before) (slice_index_or (infos_in d) i no_info)))
