-- The facts about all nodes, where a line comes whose key has several parts: the first of them may name tables of
-- dotted keys that are there, and the others name new nodes.
use Rattle.std.specs.Prelude.{ℕ, suc, ◌+◌, max, List, [], ◌∷◌, map, slice_index_or, slice_set}
use Rattle.keep_types.specs.declared.node.Kind.{Kind}
use Rattle.keep_types.specs.declared.node.Kind.TheVariants as kind
use Rattle.keep_types.specs.declared.node.NodeInfo.{NodeInfo}
use Rattle.keep_types.specs.declared.node.Origin.TheVariants as origin
use Rattle.keep_path.specs.KeysAlone.{keys_alone}
use Rattle.keep_path.specs.NodeInfos.{NodeInfos, LineNumbers, no_info, root_infos, with_node, with_table}
use Rattle.keep_path.specs.NodeInfos.{without_node}
use Rattle.keep_path.specs.NodesBelow.{Totals, one_more, shifted, value_of, with_numbers, with_value}
use Rattle.keep_path.specs.Path.{Part}

-- ---- tables that are there

-- with so many key parts more from that number on
abbrev pub with_parts_from : ℕ → ℕ → NodeInfos → NodeInfos
with_parts_from from more t = record t { infos = map (with_numbers (λ v. v) (shifted from 0 more)) t.infos }

-- the facts about a table of dotted keys, where one keyval more continues from it, whose value has the number v
abbrev pub info_with_dots : ℕ → NodeInfo → NodeInfo
info_with_dots v i = record i { marks = suc i.marks; origin = origin.Dotted (max v (value_of i)) }

-- with one keyval more that continues from each of these tables
abbrev pub with_dots : ℕ → List ℕ → NodeInfos → NodeInfos
with_dots v [] t = t
with_dots v (id ∷ ids) t =
    with_dots v ids
    (record t { infos = slice_set t.infos id (info_with_dots v (slice_index_or t.infos id no_info)) })

-- ---- key parts that go

-- without so many key parts from that number on
abbrev pub without_parts : ℕ → ℕ → NodeInfos → NodeInfos
without_parts from gone t =
    record t { infos = map (with_numbers (λ v. v) (shifted (from + gone) gone 0)) t.infos }

-- ---- the nodes of new keys

-- the numbers after so many key parts of the line
abbrev pub after_parts : ℕ → LineNumbers → LineNumbers
after_parts n line = record line { key = line.key + n }

abbrev pub totals_after_parts : ℕ → Totals → Totals
totals_after_parts n t = record t { keys = t.keys + n }

-- with the node of the first new key, at this path, and below it those of the further ones
abbrev pub with_keys : NodeInfos → ℕ → LineNumbers → List Part → List (List ℕ) → Kind → Totals → Totals → NodeInfos
with_keys t at line path [] k old new = with_node t at line path k
with_keys t at line path (x ∷ xs) k old new =
    with_value (with_table t at line path) at 0 (one_more old) new (keys_alone (x ∷ xs) k) kind.Table

-- Without the node of a line's first new key, which has the number `at`, and the `gone` nodes below it; so many keys of
-- the line come before that key. The document had `old` values and key parts in all, and has `new`.
abbrev pub without_keys : NodeInfos → ℕ → ℕ → ℕ → LineNumbers → Totals → Totals → Kind → NodeInfos
without_keys t at gone passed line old new k =
    without_parts line.key passed
    (without_node (with_value t at gone old (one_more (totals_after_parts passed new)) root_infos k) at
    (after_parts passed line))
