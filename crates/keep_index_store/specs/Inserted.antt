-- A key of a line that comes among the nodes.
use Rattle.std.specs.Prelude.{◌≡◌, ℕ, ◌-◌, ◌<◌, ◌≤◌, List, [], ◌∷◌, ◌++◌, length, map, All, Contains}
use Rattle.std.specs.List.{insert}
use Rattle.keep_types.specs.declared.node.Kind.{Kind}
use Rattle.keep_types.specs.declared.node.Kind.TheVariants as kind
use Rattle.keep_types.specs.declared.node.NodeInfo.{NodeInfo}
use Rattle.keep_path.specs.NodeInfos.{NodeInfos, LineNumbers, later_number, renumbered}
use Rattle.keep_path.specs.Path.{Part, key}
use Rattle.keep_index_store.specs.AllNodes.{Node}
use Rattle.keep_index_store.specs.Removed.{HasStoredLink, IsLeaf}
use Rattle.keep_index_store.specs.Stored.{infos_of, trie_of}
use Rattle.keep_index_store.specs.Trie.{TrieNode, Holding, nothing, by_key, by_index, holds_at, holdings_of}
use Rattle.keep_index_store.specs.Trie.{parent_at, paths_of, path_at}

-- what children a line's node may have
abbrev pub holding_of : Kind → Holding
holding_of kind.Array = by_index
holding_of kind.Inline = by_key
holding_of kind.Table = by_key
holding_of _ = nothing

-- the node before that number and the node of it are no items of one array, and no elements of one array of tables
abbrev pub SplitsNoItems : List TrieNode → ℕ → Type 0
SplitsNoItems nodes at =
    parent_at nodes (at - 1) ≡ parent_at nodes at → holds_at nodes (parent_at nodes at) ≡ by_key

-- a node can come below a table by this key, under that number
pub record HasPlace (nodes : List TrieNode) (parent : ℕ) (text : List ℕ) (at : ℕ) : Type 0 where
  pub below : parent < at
  pub within : at ≤ length nodes
  pub keyed : holds_at nodes parent ≡ by_key
  pub fresh : Contains (paths_of nodes) (path_at nodes parent ++ key text ∷ []) → ⊥
  pub apart : at < length nodes → SplitsNoItems nodes at

-- with one node more, which has the number `at`, this path and these facts
abbrev pub with_one : NodeInfos → ℕ → List Part → NodeInfo → NodeInfos
with_one t at path info = record { paths = insert t.paths at path; infos = insert t.infos at info }

-- the same of a node of a line, where all others have the numbers that they have with the line
abbrev pub with_line_node : NodeInfos → ℕ → LineNumbers → List Part → NodeInfo → NodeInfos
with_line_node t at line path info =
    with_one (record t { infos = map (renumbered later_number line) t.infos }) at path info

-- the nodes with one more, which has that number, this path, these children and these facts: it can be taken out again
pub record IsInserted (old new : List Node) (at : ℕ) (path : List Part) (h : Holding) (info : NodeInfo) : Type 0 where
  pub paths : paths_of (trie_of new) ≡ insert (paths_of (trie_of old)) at path
  pub holdings : holdings_of (trie_of new) ≡ insert (holdings_of (trie_of old)) at h
  pub infos : infos_of new ≡ insert (infos_of old) at info
  pub leaf : IsLeaf new at
  pub links : All HasStoredLink new
