-- The tree of steps that contracts see: the nodes, and the facts about each.
use Rattle.std.specs.Prelude.{◌≡◌, ℕ, ◌<◌, List, [], ◌∷◌, ◌++◌, length, slice_index_or, Option, Some, None, Contains}
use Rattle.keep_types.specs.declared.node.NodeInfo.{NodeInfo}
use Rattle.keep_path.specs.Path.{Part}
use Rattle.keep_path.specs.NodeInfos.{NodeInfos, no_info, root_infos}
use Rattle.keep_index_store.specs.AllNodes.{Node}
use Rattle.keep_index_store.specs.Stored.{trie_of, infos_of}
use Rattle.keep_index_store.specs.Trie.{TrieNode, Holding, by_key, children_of, holds_at, parent_at, paths_of, path_at}

-- the nodes, each with its step, and the facts about each
pub record TrieInfos : Type 0 where
  pub trie : List TrieNode
  pub infos : List NodeInfo

-- the tree that stored nodes represent
abbrev pub tree_of : List Node → TrieInfos
tree_of nodes = record { trie = trie_of nodes; infos = infos_of nodes }

abbrev pub info_at : TrieInfos → ℕ → NodeInfo
info_at t i = slice_index_or t.infos i no_info

-- of each node its path, and the facts about it
abbrev pub node_infos : TrieInfos → NodeInfos
node_infos t = record { paths = paths_of t.trie; infos = t.infos }

-- the root is the only node, has no mark, and may have these children
pub record IsRoot (h : Holding) (t : TrieInfos) : Type 0 where
  pub root : TrieNode
  pub alone : t.trie ≡ root ∷ []
  pub state : root.state ≡ None
  pub holds : root.holds ≡ h
  pub facts : node_infos t ≡ root_infos

-- the node below another by this step, or that there is none
abbrev pub IsChild : List TrieNode → ℕ → Part → Option ℕ → Type 0
IsChild nodes id part None = Contains (paths_of nodes) (path_at nodes id ++ part ∷ []) → ⊥
IsChild nodes id part (Some child) = (child < length nodes) × (path_at nodes child ≡ path_at nodes id ++ part ∷ [])

-- a node is a child by key, and has no children
pub record IsKeyLeaf (nodes : List TrieNode) (id : ℕ) : Type 0 where
  pub later : 0 < id
  pub bare : children_of nodes id ≡ []
  pub keyed : holds_at nodes (parent_at nodes id) ≡ by_key
