-- What is asked of the nodes: the number of a path, the path of a number, and the nodes one step below.
use Rattle.std.specs.Prelude.{◌≡◌, ℕ, ◌<◌, List, [], ◌∷◌, length, IfSome, Option, slice_index_or, slice_get}
use Rattle.std.specs.Option.{option_map, option_and_then}
use Rattle.keep_rules.specs.declared.index.NodeId.{NodeId}
use Rattle.keep_index_store.specs.Trie.{TrieNode, IsTrie, parent_at}
use Rattle.keep_path.specs.Path.{Part}
use Rattle.keep_meaning.specs.Nodes.{node_number, children}
use Rattle.keep_path.specs.NodeInfos.{NodeInfos}

-- the number of the node that was found
abbrev pub number_of : Option NodeId → Option ℕ
number_of found = option_map (λ id. id.0) found

-- the answer is the node with this number, if there is one, and it is a node of these
pub record FindsNode (t : NodeInfos) (number : Option ℕ) (o : Option NodeId) : Type 0 where
  pub found : number_of o ≡ number
  pub within : IfSome o (λ id. id.0 < length t.paths)

-- the path of the node with that number
abbrev pub path_numbered : NodeInfos → ℕ → List Part
path_numbered t i = slice_index_or t.paths i []

-- the paths of the nodes one step below it, in the order of first meeting
abbrev pub children_numbered : NodeInfos → ℕ → List (List Part)
children_numbered t i = children (path_numbered t i) t.paths

-- the number of the n-th child among them
abbrev pub nth_child : NodeInfos → ℕ → ℕ → Option ℕ
nth_child t i n = option_and_then (node_number t.paths) (slice_get (children_numbered t i) n)

-- ---- the nodes up to the root

-- the nodes are a trie, in which there is a node with that number
pub record HasNode (nodes : List TrieNode) (id : ℕ) : Type 0 where
  pub trie : IsTrie nodes
  pub within : id < length nodes

-- there is a node with that number, and it is not the root
pub record IsBelowRoot (nodes : List TrieNode) (id : ℕ) : Type 0 where
  pub later : 0 < id
  pub within : id < length nodes

-- a node, its parent and so on, up to below another
abbrev pub AreAncestors : List TrieNode → ℕ → List ℕ → ℕ → Type 0
AreAncestors nodes id [] top = id ≡ top
AreAncestors nodes id (n ∷ ancestors) top =
    (id ≡ n) × (0 < n) × (n < length nodes) × AreAncestors nodes (parent_at nodes n) ancestors top
