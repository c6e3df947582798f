-- The facts about all nodes: of each its path, and what is known of it.
use Rattle.std.specs.Prelude.{ℕ, suc, ◌-◌, false, nat_lt, if◌then◌else◌, List, [], ◌∷◌, ◌++◌, map, Some}
use Rattle.std.specs.Prelude.{None, slice_set, slice_index_or}
use Rattle.std.specs.List.{insert, remove}
use Rattle.std.specs.Option.{option_map}
use Rattle.keep_types.specs.declared.node.Kind.{Kind}
use Rattle.keep_types.specs.declared.node.Kind.TheVariants as kind
use Rattle.keep_types.specs.declared.node.Origin.{Origin}
use Rattle.keep_types.specs.declared.node.Origin.TheVariants as origin
use Rattle.keep_types.specs.declared.node.NodeInfo.{NodeInfo}
use Rattle.keep_path.specs.Path.{Part, moved_path}

-- of each node its path, and the facts about it
pub record NodeInfos : Type 0 where
  pub paths : List (List Part)
  pub infos : List NodeInfo

-- the facts about a root that is not mentioned yet
abbrev pub no_info : NodeInfo
no_info = record { kind = kind.Table; key = None; marks = 0; passed = false; origin = origin.Root }

abbrev pub root_infos : NodeInfos
root_infos = record { paths = [] ∷ []; infos = no_info ∷ [] }

-- with another kind of one node
abbrev pub with_kind : NodeInfos → ℕ → Kind → NodeInfos
with_kind t i k = record t { infos = slice_set t.infos i (record (slice_index_or t.infos i no_info) { kind = k }) }

-- with another path of one node, and so of all below it
abbrev pub with_path : NodeInfos → List Part → List Part → NodeInfos
with_path t from to = record t { paths = map (moved_path from to) t.paths }

-- ---- one node more, and one less

-- the numbers of a keyval's statement, of its value, and of its one key part
pub record LineNumbers : Type 0 where
  pub statement : ℕ
  pub value : ℕ
  pub key : ℕ

-- what a number is once there is one more at `at`, and what it is once that is gone
abbrev pub later_number : ℕ → ℕ → ℕ
later_number at n = if nat_lt n at then n else suc n

abbrev pub earlier_number : ℕ → ℕ → ℕ
earlier_number at n = if nat_lt at n then n - 1 else n

-- with other numbers of statements and of values
abbrev pub renumbered_origin : (ℕ → ℕ) → (ℕ → ℕ) → Origin → Origin
renumbered_origin statement value origin.Root = origin.Root
renumbered_origin statement value (origin.Value v) = origin.Value (value v)
renumbered_origin statement value (origin.Header s) = origin.Header (statement s)
renumbered_origin statement value (origin.Element s) = origin.Element (statement s)
renumbered_origin statement value (origin.Dotted v) = origin.Dotted (value v)
renumbered_origin statement value (origin.Through s) = origin.Through (statement s)
renumbered_origin statement value origin.Tables = origin.Tables

-- the facts about a node where each number changes so, by the line's number of its sort
abbrev pub renumbered : (ℕ → ℕ → ℕ) → LineNumbers → NodeInfo → NodeInfo
renumbered by line i = record i {
  key = option_map (by line.key) i.key;
  origin = renumbered_origin (by line.statement) (by line.value) i.origin;
}

-- the facts about the node of the line's keyval
abbrev pub line_info : LineNumbers → Kind → NodeInfo
line_info line k = record {
  kind = k;
  key = Some line.key;
  marks = 1;
  passed = false;
  origin = origin.Value line.value;
}

-- with the line's node, which has the number `at`
abbrev pub with_node : NodeInfos → ℕ → LineNumbers → List Part → Kind → NodeInfos
with_node t at line path k = record {
  paths = insert t.paths at path;
  infos = insert (map (renumbered later_number line) t.infos) at (line_info line k);
}

-- the facts about the node of a line's key from which its keyval continues by dots
abbrev pub dotted_info : LineNumbers → NodeInfo
dotted_info line = record {
  kind = kind.Table;
  key = Some line.key;
  marks = 1;
  passed = false;
  origin = origin.Dotted line.value;
}

-- with the node of such a key, which has the number `at`
abbrev pub with_table : NodeInfos → ℕ → LineNumbers → List Part → NodeInfos
with_table t at line path = record {
  paths = insert t.paths at path;
  infos = insert (map (renumbered later_number line) t.infos) at (dotted_info line);
}

-- with a node more, after all others
abbrev pub with_last : NodeInfos → List Part → NodeInfo → NodeInfos
with_last t path info = record { paths = t.paths ++ path ∷ []; infos = t.infos ++ info ∷ [] }

-- without the line's node
abbrev pub without_node : NodeInfos → ℕ → LineNumbers → NodeInfos
without_node t at line = record {
  paths = remove t.paths at;
  infos = map (renumbered earlier_number line) (remove t.infos at);
}
