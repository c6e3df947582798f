-- One line less whose key goes on from tables of dotted keys: which keyval is then the last that continues from each.
use Rattle.std.specs.Prelude.{◌≡◌, ℕ, ◌-◌, ◌<◌, if◌then◌else◌, max, List, [], ◌∷◌, length, map, Some, slice_index_or}
use Rattle.std.specs.Prelude.{slice_set}
use Rattle.keep_types.specs.declared.node.Kind.TheVariants as kind
use Rattle.keep_types.specs.declared.node.NodeInfo.{NodeInfo}
use Rattle.keep_types.specs.declared.node.Origin.TheVariants as origin
use Rattle.keep_syntax.specs.Tree.{Document}
use Rattle.keep_path.specs.Dots.{without_keys}
use Rattle.keep_path.specs.NodeInfos.{NodeInfos, no_info}
use Rattle.keep_path.specs.NodesBelow.{AreBelow, value_of}
use Rattle.keep_path.specs.Path.{Part}
use Rattle.keep_meaning.specs.DotsMore.{AreDotted, HasDotsMore, new_path, passed_paths}
use Rattle.keep_meaning.specs.KeysMore.{IsUnsaid}
use Rattle.keep_meaning.specs.LinesMore.{node_infos, nodes_after, numbers_after}
use Rattle.keep_meaning.specs.Marks.{marks}
use Rattle.keep_meaning.specs.Meaning.{mentions_in}
use Rattle.keep_meaning.specs.Nodes.{infos_in, is_child, node_number}
use Rattle.keep_meaning.specs.OtherValues.{totals_of}
use Rattle.keep_meaning.specs.Rules.{ObeysRules}

-- the greatest number of a value that is known of the nodes one step below this path: of their own, or of the last
-- keyval that continues from them
abbrev pub last_value : List Part → List (List Part) → List NodeInfo → ℕ
last_value path [] is = 0
last_value path (p ∷ ps) [] = 0
last_value path (p ∷ ps) (i ∷ is) =
    if is_child path p then max (value_of i) (last_value path ps is) else last_value path ps is

abbrev pub last_value_below : NodeInfos → ℕ → ℕ
last_value_below t id = last_value (slice_index_or t.paths id []) t.paths t.infos

-- A table of dotted keys has the number of the last value that the nodes one step below it have.
abbrev pub DotsHaveLast : Type 0
DotsHaveLast =
    (d : Document) → ObeysRules (marks (mentions_in d)) → (id v : ℕ) → id < length (infos_in d)
    → (slice_index_or (infos_in d) id no_info).origin ≡ origin.Dotted v → last_value_below (node_infos d) id ≡ v

-- the facts about a table of dotted keys, where one keyval less continues from it, and the last has the number v
abbrev pub info_without_dots : ℕ → NodeInfo → NodeInfo
info_without_dots v i = record i { marks = i.marks - 1; origin = origin.Dotted v }

-- with one keyval less that continues from each of these tables, each of which is above the next
abbrev pub without_dots : List ℕ → NodeInfos → NodeInfos
without_dots [] t = t
without_dots (id ∷ ids) t =
    let u = without_dots ids t in
    record u {
      infos = slice_set u.infos id (info_without_dots (last_value_below u id) (slice_index_or u.infos id no_info));
    }

-- Without a line that passes such tables, and whose first new key's path is unsaid then, the nodes are those that were:
-- those of its new keys go, and the tables have one mention less.
abbrev pub DotsTakeNodes : Type 0
DotsTakeNodes =
    (d more : Document) (line : HasDotsMore d more) (ids : List ℕ)
    → AreDotted d (nodes_after line.before) (passed_paths line.before line.passed) ids
    → IsUnsaid d (new_path line.before line.passed line.first) → ObeysRules (marks (mentions_in d))
    → (node_number (node_infos more).paths (new_path line.before line.passed line.first)
    ≡ Some (nodes_after line.before))
    × (map (node_number (node_infos more).paths) (passed_paths line.before line.passed) ≡ map Some ids)
    × ((gone : ℕ) × AreBelow (node_infos more).paths (nodes_after line.before) gone
    × (node_infos d
    ≡ without_dots ids
    (without_keys (node_infos more) (nodes_after line.before) gone (length line.passed) (numbers_after line.before)
    (totals_of more) (totals_of d) kind.Table)))
