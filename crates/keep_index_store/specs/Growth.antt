-- The two ways in which the nodes change: one more, or another state.
use Rattle.std.specs.Prelude.{◌≡◌, ℕ, ◌<◌, ◌==◌, if◌then◌else◌, List, [], ◌∷◌, ◌++◌, length, Option, Some, Contains}
use Rattle.std.specs.Prelude.{slice_set}
use Rattle.keep_types.specs.declared.role.Role.{Role}
use Rattle.keep_path.specs.Path.{Part}
use Rattle.keep_index_store.specs.Trie.{TrieNode, Holding, IsTrie, paths_of, states_of, holdings_of, children_of}

-- a new node with this path and state is a child of a node
pub record Grows (old new : List TrieNode) (parent : ℕ) (path : List Part) (state : Option Role) (holds : Holding)
    : Type 0 where
  pub trie : IsTrie old
  pub trie' : IsTrie new
  pub within : parent < length old
  pub fresh : Contains (paths_of old) path → ⊥
  pub paths : paths_of new ≡ paths_of old ++ path ∷ []
  pub states : states_of new ≡ states_of old ++ state ∷ []
  pub holdings : holdings_of new ≡ holdings_of old ++ holds ∷ []
  pub children : (i : ℕ) → children_of new i ≡ children_of old i ++ (if parent == i then length old ∷ [] else [])

-- a node that is there takes another state
pub record Restates (old new : List TrieNode) (id : ℕ) (next : Role) : Type 0 where
  pub trie : IsTrie old
  pub trie' : IsTrie new
  pub within : id < length old
  pub paths : paths_of new ≡ paths_of old
  pub states : states_of new ≡ slice_set (states_of old) id (Some next)
  pub holdings : holdings_of new ≡ holdings_of old
  pub children : (i : ℕ) → children_of new i ≡ children_of old i
  pub many : length new ≡ length old
