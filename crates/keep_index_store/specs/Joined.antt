-- Facts from one more mention of each of some nodes, joined with their own.
use Rattle.std.specs.Prelude.{◌≡◌, ℕ, suc, ◌<◌, ◌≤◌, List, [], ◌∷◌, ◌++◌, length, map, slice_index_or}
use Rattle.std.specs.Prelude.{slice_set, ⊤}
use Rattle.keep_types.specs.declared.node.NodeInfo.{NodeInfo}
use Rattle.keep_path.specs.NodeInfos.{no_info}
use Rattle.keep_index_store.specs.AllNodes.{Node, node_at, with_facts}
use Rattle.keep_index_store.specs.Facts.{info_of, joined_facts, joined_info}
use Rattle.keep_index_store.specs.Trie.{TrieNode, state_at}
use Rattle.keep_index_store.specs.declared.facts.NodeFacts.{NodeFacts}
use Rattle.keep_index_store.specs.declared.tree.joining.Join.{Join}

-- the facts about all nodes, where those are joined, one after another
abbrev pub joined_all : List NodeInfo → List Join → List NodeInfo
joined_all infos [] = infos
joined_all infos (j ∷ js) =
    joined_all (slice_set infos j.id (joined_info (slice_index_or infos j.id no_info) (info_of j.facts))) js

-- each is of a node that is there, and of a later one than the one before
abbrev pub AreAscending : ℕ → ℕ → List Join → Type 0
AreAscending low count [] = ⊤
AreAscending low count (j ∷ js) = (low ≤ j.id) × (j.id < count) × AreAscending (suc j.id) count js

-- ---- made first, and stored then

-- the joined facts of each of those nodes, with its number, from the facts that are there before any changes
abbrev pub each_joined : List Node → List Join → List (ℕ × NodeFacts)
each_joined nodes joins = map (λ j. (j.id, joined_facts (node_at nodes j.id).facts j.facts)) joins

-- the nodes, where those have these facts
abbrev pub with_all_facts : List Node → List (ℕ × NodeFacts) → List Node
with_all_facts nodes [] = nodes
with_all_facts nodes (e ∷ es) = with_facts (with_all_facts nodes es) e.0 e.1

-- the facts about all nodes, where those have these
abbrev pub with_all_infos : List NodeInfo → List (ℕ × NodeFacts) → List NodeInfo
with_all_infos infos [] = infos
with_all_infos infos (e ∷ es) = slice_set (with_all_infos infos es) e.0 (info_of e.1)

-- stored in place of those of their nodes, whatever nodes come after, they are the joined ones
abbrev pub AreJoined : List NodeInfo → List Join → List (ℕ × NodeFacts) → Type 0
AreJoined infos joins all =
    (more : List NodeInfo) → with_all_infos (infos ++ more) all ≡ joined_all infos joins ++ more

-- they are of a node that is there, and have its role
abbrev pub HasRole : List TrieNode → ℕ × NodeFacts → Type 0
HasRole nodes e = (e.0 < length nodes) × (e.1.role ≡ state_at nodes e.0)
