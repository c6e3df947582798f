-- One line more whose key goes on from tables of dotted keys that are there: a document that says the same as another,
-- and such a keyval.
use Rattle.std.specs.Prelude.{◌≡◌, ℕ, suc, ◌+◌, ◌<◌, ◌≤◌, ◌↔◌, All, IsTrue, List, [], ◌∷◌, ◌++◌, length, map, Some}
use Rattle.std.specs.Prelude.{slice_index_or}
use Rattle.keep_types.specs.declared.node.Kind.{Kind}
use Rattle.keep_types.specs.declared.node.Kind.TheVariants as kind
use Rattle.keep_types.specs.declared.node.Origin.TheVariants as origin
use Rattle.keep_syntax.specs.Numbered.{part_count, value_count}
use Rattle.keep_syntax.specs.Tree.{Document, Entries, Value, none}
use Rattle.keep_path.specs.Dots.{after_parts, totals_after_parts, with_dots, with_keys, with_parts_from}
use Rattle.keep_path.specs.KeysAlone.{paths_below}
use Rattle.keep_path.specs.NodeInfos.{LineNumbers, NodeInfos, no_info, with_node, with_table}
use Rattle.keep_path.specs.NodesBelow.{Totals, one_more, with_value}
use Rattle.keep_path.specs.Path.{Part, key}
use Rattle.keep_meaning.specs.Counts.{statements_in}
use Rattle.keep_meaning.specs.Fact.{Fact}
use Rattle.keep_meaning.specs.KeysMore.{IsUnsaid, keys_with_value}
use Rattle.keep_meaning.specs.LinesMore.{is_met_from, node_infos, nodes_after, numbers_after}
use Rattle.keep_meaning.specs.Marks.{Statement, keyval, marks, reading_after, start, value}
use Rattle.keep_meaning.specs.Meaning.{entries_mentions, keyed_mentions, mentions_in, valued_mentions}
use Rattle.keep_meaning.specs.Nodes.{fact_kind, infos_in, node_number}
use Rattle.keep_meaning.specs.OtherValues.{nodes_in_value, totals_of}
use Rattle.keep_meaning.specs.Rules.{ObeysRules}

-- The second document has one line more: after the keys that it passes it has new ones, and states this fact at their
-- end, with these entries in the value.
pub record HasDotsMore (d more : Document) : Type 0 where
  pub before : List Statement
  pub after : List Statement
  pub passed : List (List ℕ)
  pub first : List ℕ
  pub further : List (List ℕ)
  pub fact : Fact
  pub nested : Entries
  pub old : statements_in d ≡ before ++ after
  pub new : statements_in more
      ≡ before
      ++ keyval (keyed_mentions (passed ++ first ∷ further) (valued_mentions (value fact) (entries_mentions 0 nested)))
      ∷ after
  pub values : (totals_of more).values ≡ suc (totals_of d).values + value_count nested
  pub keys : (totals_of more).keys ≡ (totals_of d).keys + (length (passed ++ first ∷ further) + part_count nested)

-- the path of the first new key of a line with these statements before it, and those of the keys that it passes
abbrev pub new_path : List Statement → List (List ℕ) → List ℕ → List Part
new_path before passed first = ((reading_after start before).body ++ map key passed) ++ key first ∷ []

abbrev pub passed_paths : List Statement → List (List ℕ) → List (List Part)
passed_paths before passed = paths_below (reading_after start before).body passed

-- the node with this number is met before so many, and is a table of dotted keys
abbrev pub IsDotted : Document → ℕ → ℕ → Type 0
IsDotted d few id = (id < few) × ((v : ℕ) × ((slice_index_or (infos_in d) id no_info).origin ≡ origin.Dotted v))

-- these paths are those of such nodes, with these numbers
pub record AreDotted (d : Document) (few : ℕ) (paths : List (List Part)) (ids : List ℕ) : Type 0 where
  pub numbers : map (node_number (node_infos d).paths) paths ≡ map Some ids
  pub dotted : All (IsDotted d few) ids

-- Such a line, where the first new key's path is unsaid and nothing is in its value, gives the nodes of the new keys,
-- and the tables that it passes one mention more.
abbrev pub DotsAddNodes : Type 0
DotsAddNodes =
    (d more : Document) (line : HasDotsMore d more) (ids : List ℕ)
    → AreDotted d (nodes_after line.before) (passed_paths line.before line.passed) ids
    → IsUnsaid d (new_path line.before line.passed line.first)
    → line.nested ≡ none
    → node_infos more
    ≡ with_dots (numbers_after line.before).value ids
    (with_keys (with_parts_from (numbers_after line.before).key (length line.passed) (node_infos d))
    (nodes_after line.before) (after_parts (length line.passed) (numbers_after line.before))
    (new_path line.before line.passed line.first) line.further (fact_kind line.fact)
    (totals_after_parts (length line.passed) (totals_of d)) (totals_of more))

-- with the nodes of the new keys, as `with_keys` of keep_path tells it, and those of the value below that of the last
abbrev pub with_valued_keys : NodeInfos → ℕ → LineNumbers → List Part → List (List ℕ) → Kind → NodeInfos → Totals
    → Totals → NodeInfos
with_valued_keys t at line path [] k inside old new =
    with_value (with_node t at line path k) at 0 (one_more old) new inside k
with_valued_keys t at line path (x ∷ xs) k inside old new =
    with_value (with_table t at line path) at 0 (one_more old) new (keys_with_value (x ∷ xs) k inside) kind.Table

-- With this in its value, it gives the nodes of the value below that of the last key.
abbrev pub DotsAddValueNodes : Type 0
DotsAddValueNodes =
    (d more : Document) (line : HasDotsMore d more) (ids : List ℕ)
    → AreDotted d (nodes_after line.before) (passed_paths line.before line.passed) ids
    → IsUnsaid d (new_path line.before line.passed line.first)
    → (v : Value) → line.nested ≡ v.nested
    → node_infos more
    ≡ with_dots (numbers_after line.before).value ids
    (with_valued_keys (with_parts_from (numbers_after line.before).key (length line.passed) (node_infos d))
    (nodes_after line.before) (after_parts (length line.passed) (numbers_after line.before))
    (new_path line.before line.passed line.first) line.further (fact_kind line.fact) (nodes_in_value v)
    (totals_after_parts (length line.passed) (totals_of d)) (totals_of more))

-- The place of the first new node is found by the facts about the others: from there on they are first met after the
-- line.
abbrev pub DotsAreFound : Type 0
DotsAreFound =
    (d more : Document) (line : HasDotsMore d more) → ObeysRules (marks (mentions_in d))
    → (nodes_after line.before ≤ length (infos_in d))
    × ((i : ℕ) → i < length (infos_in d) → (nodes_after line.before ≤ i)
    ↔ IsTrue (is_met_from (numbers_after line.before) (slice_index_or (infos_in d) i no_info)))
