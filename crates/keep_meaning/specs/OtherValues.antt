-- Another value in the place of one: what the document says then, and what is known of the nodes in a value.
use Rattle.std.specs.Prelude.{◌≡◌, ℕ, suc, ◌+◌, ◌-◌, ◌≤◌, List, ◌∷◌, ◌++◌, length, map, None, Some}
use Rattle.std.specs.List.{AllByRecursion}
use Rattle.keep_syntax.specs.Numbered as numbered
use Rattle.keep_syntax.specs.Numbered.{part_count, value_count}
use Rattle.keep_syntax.specs.Tree.{Document, Entries, Value}
use Rattle.keep_path.specs.NodeInfos.{NodeInfos}
use Rattle.keep_path.specs.NodesBelow.{AreBelow, Totals, with_value}
use Rattle.keep_path.specs.Path.{Part, strip}
use Rattle.keep_meaning.specs.Fact.{Fact}
use Rattle.keep_meaning.specs.Counts.{Count, Numbered, numbered_in, numbered_mentions, statements_in}
use Rattle.keep_meaning.specs.LinesMore.{node_infos}
use Rattle.keep_meaning.specs.Marks.{below, reading_after, start, value}
use Rattle.keep_meaning.specs.Meaning.{body_fact, entries_mentions}
use Rattle.keep_meaning.specs.Nodes.{fact_kind, node_info, node_number, node_path, nodes_of}

-- how many values and key parts a document has
abbrev pub totals_of : Document → Totals
totals_of d = record { values = length (numbered.values d); keys = length (numbered.parts d) }

-- What a value with a key says, and what is in it, where so much comes before it.
abbrev pub said_by_value : Count → List Part → Fact → Entries → List Numbered
said_by_value c path f es =
    numbered_mentions c (record { path = path; kind = value f } ∷ map (below path) (entries_mentions 0 es))

-- what comes before that which follows the value
abbrev pub count_past : Count → Entries → Count
count_past c es = record c { values = suc (c.values + value_count es); keys = suc (c.keys + part_count es) }

-- what follows a value with the first entries, as it follows one with the others
abbrev pub said_past : Count → Entries → Entries → Numbered → Numbered
said_past c old new n = record n {
  before = record n.before {
    values = (n.before.values + value_count new) - value_count old;
    keys = (n.before.keys + part_count new) - part_count old;
  };
}

-- it is not said of the path, or of a path below it
abbrev pub IsApart : List Part → Numbered → Type 0
IsApart path n = strip path n.mention.path ≡ None

-- no more comes before it than before the value
pub record IsSaidBefore (c : Count) (n : Numbered) : Type 0 where
  pub values : n.before.values ≤ c.values
  pub keys : n.before.keys ≤ c.keys

-- no less comes before it than before that which follows the value
pub record IsSaidPast (c : Count) (n : Numbered) : Type 0 where
  pub values : c.values ≤ n.before.values
  pub keys : c.keys ≤ n.before.keys

-- The second document has the value v with a key at a path, where the first has another; all else is said by both.
pub record HasOtherValue (d other : Document) (path : List Part) (v : Value) : Type 0 where
  pub fact : Fact
  pub entries : Entries
  pub count : Count
  pub before : List Numbered
  pub after : List Numbered
  pub old : numbered_in d ≡ before ++ (said_by_value count path fact entries ++ after)
  pub new : numbered_in other
      ≡ before ++ (said_by_value count path (body_fact v.body) v.nested ++ map (said_past count entries v.nested) after)
  pub lower : AllByRecursion (IsSaidBefore count) before
  pub higher : AllByRecursion (IsSaidPast (count_past count entries)) after
  pub apart_before : AllByRecursion (IsApart path) before
  pub apart_after : AllByRecursion (IsApart path) after
  pub values : (totals_of other).values + value_count entries ≡ (totals_of d).values + value_count v.nested
  pub keys : (totals_of other).keys + part_count entries ≡ (totals_of d).keys + part_count v.nested
  pub tables : (reading_after start (statements_in other)).tables ≡ (reading_after start (statements_in d)).tables

-- The nodes of a value alone, its own before those in it. The values in it have numbers from 1 on, and its key parts
-- from 0 on.
abbrev pub nodes_in_value : Value → NodeInfos
nodes_in_value v =
    let first : Count = record { statements = 0; values = 1; keys = 0 } in
    let nodes = nodes_of (numbered_mentions first (entries_mentions 0 v.nested)) in
    record { paths = map node_path nodes; infos = map node_info nodes }

-- With another value in the place of one, the nodes in the new one take the place of those in the old one.
abbrev pub ValueGivesNodes : Type 0
ValueGivesNodes =
    (d other : Document) (path : List Part) (v : Value) (h : HasOtherValue d other path v) (i : ℕ)
    → node_number (node_infos d).paths path ≡ Some i
    → (gone : ℕ) × AreBelow (node_infos d).paths i gone
    × (node_infos other ≡ with_value (node_infos d) i gone (totals_of d) (totals_of other) (nodes_in_value v)
    (fact_kind (body_fact v.body)))
