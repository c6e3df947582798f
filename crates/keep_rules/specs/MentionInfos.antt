-- The facts about the nodes, and what one more mention changes in them.
use Rattle.std.specs.Prelude.{◌≡◌, true, ℕ, List, [], ◌∷◌, ◌++◌, map, fold, Option, Some, None, Contains, slice_set}
use Rattle.std.specs.Prelude.{slice_index_or}
use Rattle.keep_types.specs.declared.node.NodeInfo.{NodeInfo}
use Rattle.keep_path.specs.Path.{Part}
use Rattle.keep_meaning.specs.Counts.{Numbered, is_value}
use Rattle.keep_meaning.specs.Nodes.{mention_of, node_info, mentioned_node, node_number, paths_with}
use Rattle.keep_path.specs.NodeInfos.{NodeInfos, no_info}
use Rattle.keep_index_store.specs.Facts.{joined_info}

-- with these facts about the node of a number, or about a new node
abbrev pub with_info_at : NodeInfos → Option ℕ → List Part → NodeInfo → NodeInfos
with_info_at t None path more = record { paths = t.paths ++ path ∷ []; infos = t.infos ++ more ∷ [] }
with_info_at t (Some i) path more =
    record t { infos = slice_set t.infos i (joined_info (slice_index_or t.infos i no_info) more) }

-- with the facts from one more mention of a path: a new node, or one that is there
abbrev pub with_info : NodeInfos → List Part → NodeInfo → NodeInfos
with_info t path more = with_info_at t (node_number t.paths path) path more

-- the facts from one mention
abbrev pub mention_info : Numbered → NodeInfo
mention_info n = node_info (mentioned_node n.mention.path (n ∷ []))

-- with the facts from these mentions, one after another
abbrev pub with_mentions : NodeInfos → List Numbered → NodeInfos
with_mentions t [] = t
with_mentions t (n ∷ ns) = with_mentions (with_info t n.mention.path (mention_info n)) ns

-- the paths of the nodes after these mentions
abbrev pub paths_after : List (List Part) → List Numbered → List (List Part)
paths_after paths ns = fold paths_with paths (map (λ m. m.path) (map mention_of ns))

-- no value is given to a path that is mentioned before
abbrev pub ValuesAreNew : List (List Part) → List Numbered → Type 0
ValuesAreNew paths [] = Unit {0}
ValuesAreNew paths (n ∷ ns) =
    (is_value n.mention.kind ≡ true → Contains paths n.mention.path → ⊥)
    × ValuesAreNew (paths_with paths n.mention.path) ns
