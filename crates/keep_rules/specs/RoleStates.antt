-- How paths and states represent the mentions so far.
use Rattle.std.specs.Prelude.{◌≡◌, ℕ, ◌<◌, List, [], length, Option, None, slice_index_or, Contains}
use Rattle.std.specs.List.{filter_map}
use Rattle.keep_types.specs.declared.role.Role.{Role}
use Rattle.keep_path.specs.Path.{Part}
use Rattle.keep_meaning.specs.Rules.{ObeysRules}
use Rattle.keep_meaning.specs.Marks.{Mention, marks, role_of}
use Rattle.keep_meaning.specs.Nodes.{node_paths, kinds_at}
use Rattle.keep_meaning.specs.State.{IsState}
use Rattle.keep_index_store.specs.Trie.{TrieNode, IsTrie, paths_of, states_of}

-- the roles of the marks at a path
abbrev pub mention_roles : List Part → List Mention → List Role
mention_roles path ms = filter_map role_of (kinds_at path ms)

-- these are the paths of the mentions, and the states represent their roles
pub record StatesRepresent (paths : List (List Part)) (states : List (Option Role)) (ms : List Mention) : Type 0 where
  pub paths_are : paths ≡ node_paths ms
  pub many : length states ≡ length paths
  pub states_are : (i : ℕ) → i < length paths
      → IsState (slice_index_or states i None) (mention_roles (slice_index_or paths i []) ms)
  pub silent : (p : List Part) → (Contains paths p → ⊥) → kinds_at p ms ≡ []
  pub obeys : ObeysRules (marks ms)

-- the nodes are those of the mentions, whose marks obey the rules
pub record IsIndexOf (nodes : List TrieNode) (ms : List Mention) : Type 0 where
  pub trie : IsTrie nodes
  pub states_represent : StatesRepresent (paths_of nodes) (states_of nodes) ms
