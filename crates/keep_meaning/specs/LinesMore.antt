-- One line more: a document that says the same as another, and a keyval of one key part, with nothing in its value.
use Rattle.std.specs.Prelude.{◌≡◌, ℕ, Bool, false, nat_le, List, [], ◌∷◌, ◌++◌, length, map, Some, None}
use Rattle.keep_types.specs.declared.node.NodeInfo.{NodeInfo}
use Rattle.keep_types.specs.declared.node.Origin.{Origin}
use Rattle.keep_types.specs.declared.node.Origin.TheVariants as origin
use Rattle.keep_syntax.specs.Tree.{Document}
use Rattle.keep_path.specs.NodeInfos.{NodeInfos, LineNumbers}
use Rattle.keep_path.specs.Path.{Part, key}
use Rattle.keep_meaning.specs.Fact.{Fact}
use Rattle.keep_meaning.specs.Marks.{Statement, keyval, value, start, reading_after, mentions}
use Rattle.keep_meaning.specs.Counts.{no_count, count_from, statements_in}
use Rattle.keep_meaning.specs.Nodes.{node_path, node_paths, nodes_in, infos_in}

-- the second document has one line more
pub record HasLineMore (d more : Document) : Type 0 where
  pub before : List Statement
  pub after : List Statement
  pub text : List ℕ
  pub fact : Fact
  pub old : statements_in d ≡ before ++ after
  pub new : statements_in more ≡ before ++ keyval (record { path = key text ∷ []; kind = value fact } ∷ []) ∷ after

-- the full path of a line's key part after these statements
abbrev pub path_after : List Statement → List ℕ → List Part
path_after before text = (reading_after start before).body ++ key text ∷ []

-- the numbers of a line after them
abbrev pub numbers_after : List Statement → LineNumbers
numbers_after before =
    let c = count_from no_count start before in record { statement = c.statements; value = c.values; key = c.keys }

-- how many nodes they are the first to tell of
abbrev pub nodes_after : List Statement → ℕ
nodes_after before = length (node_paths (mentions before))

-- what is known of the nodes of a document
abbrev pub node_infos : Document → NodeInfos
node_infos s = record { paths = map node_path (nodes_in s); infos = infos_in s }

-- ---- where the nodes begin that are first met at a line or after it

-- of an item or an element, which no key part names: its value, or its `[[..]]`, is there
abbrev pub is_origin_from : LineNumbers → Origin → Bool
is_origin_from line (origin.Value v) = nat_le line.value v
is_origin_from line (origin.Element s) = nat_le line.statement s
is_origin_from line _ = false

-- the node is first met there, by the facts about it: the first key part that names it is there
abbrev pub is_met_from : LineNumbers → NodeInfo → Bool
is_met_from line i = elim i.key [ Some k ↦ nat_le line.key k | None ↦ is_origin_from line i.origin ]
