-- The nodes as a tree: of each its parent, its step there, the role that represents those at it, and what children it
-- may have.
use Rattle.std.specs.Prelude.{◌≢◌, ℕ, ◌+◌, ◌<◌, ◌==◌, if◌then◌else◌, List, [], ◌∷◌, ◌++◌, length, drop, map, fold}
use Rattle.std.specs.Prelude.{slice_index_or, AllPairs, Option, None}
use Rattle.keep_types.specs.declared.role.Role.{Role}
use Rattle.keep_path.specs.Path.{Part, index}

-- what children a node may have: none at a scalar, by keys at a table, by numbers at an array and an array of tables
pub data Holding : Type 0 where
  nothing : Holding
  by_key : Holding
  by_index : Holding

pub record TrieNode : Type 0 where
  pub parent : ℕ
  pub part : Part
  pub state : Option Role
  pub holds : Holding

abbrev pub link : TrieNode → ℕ × Part
link n = (n.parent, n.part)

abbrev pub path_after : List (List Part) → ℕ × Part → List (List Part)
path_after paths l = paths ++ (slice_index_or paths l.0 [] ++ l.1 ∷ []) ∷ []

-- the paths of the nodes: the root's, and then of each its parent's path and its own step
abbrev pub paths_of : List TrieNode → List (List Part)
paths_of nodes = fold path_after ([] ∷ []) (drop 1 (map link nodes))

abbrev pub path_at : List TrieNode → ℕ → List Part
path_at nodes i = slice_index_or (paths_of nodes) i []

-- the parent of a node, and its step there
abbrev pub parent_at : List TrieNode → ℕ → ℕ
parent_at nodes i = slice_index_or (map (λ n. n.parent) nodes) i 0

abbrev pub part_at : List TrieNode → ℕ → Part
part_at nodes i = slice_index_or (map (λ n. n.part) nodes) i (index 0)

-- the role that represents those at each node
abbrev pub states_of : List TrieNode → List (Option Role)
states_of nodes = map (λ n. n.state) nodes

abbrev pub state_at : List TrieNode → ℕ → Option Role
state_at nodes i = slice_index_or (states_of nodes) i None

abbrev pub holdings_of : List TrieNode → List Holding
holdings_of nodes = map (λ n. n.holds) nodes

abbrev pub holds_at : List TrieNode → ℕ → Holding
holds_at nodes i = slice_index_or (holdings_of nodes) i nothing

-- the numbers, from n on, of the children of the node i
abbrev pub children_from : ℕ → ℕ → List (ℕ × Part) → List ℕ
children_from n i [] = []
children_from n i (l ∷ ls) = if l.0 == i then n ∷ children_from (n + 1) i ls else children_from (n + 1) i ls

abbrev pub children_of : List TrieNode → ℕ → List ℕ
children_of nodes i = children_from 1 i (drop 1 (map link nodes))

-- the parent of each node is an earlier one, and no two nodes have one path
pub record IsTrie (nodes : List TrieNode) : Type 0 where
  pub root : 0 < length nodes
  pub parents : (i : ℕ) (d : TrieNode) → 0 < i → i < length nodes → (slice_index_or nodes i d).parent < i
  pub distinct : AllPairs (λ p q. p ≢ q) (paths_of nodes)
