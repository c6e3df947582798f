-- How the nodes represent arrays, tables and arrays of tables.
use Rattle.std.specs.Prelude.{◌≡◌, ℕ, ◌<◌, Bool, true, false, List, [], ◌∷◌, ◌++◌, length, Option, Some, None, IsSome}
use Rattle.std.specs.Prelude.{slice_index_or, if◌then◌else◌, Contains}
use Rattle.keep_types.specs.declared.role.Role.{Role}
use Rattle.keep_types.specs.declared.role.Role.TheVariants.{Element, Through}
use Rattle.keep_path.specs.Path.{Part, key, index}
use Rattle.keep_meaning.specs.Rules.{allows}
use Rattle.keep_meaning.specs.Marks.{elements_of}
use Rattle.keep_index_store.specs.Trie.{TrieNode, Holding, by_key, by_index, paths_of, path_at, state_at, holds_at}
use Rattle.keep_index_store.specs.Trie.{children_of}

-- a path in this state names an array of tables
abbrev pub is_tables : Option Role → Bool
is_tables None = false
is_tables (Some s) = allows s Element

-- the children that a node may have fit the role that represents those at it
pub record Fits (role : Role) (holds : Holding) : Type 0 where
  pub listed : allows role Element ≡ true → holds ≡ by_index
  pub opened : allows role Through ≡ true → holds ≡ by_key

-- the node is a table: it may have children by keys
pub record IsTable (nodes : List TrieNode) (i : ℕ) : Type 0 where
  pub within : i < length nodes
  pub keyed : holds_at nodes i ≡ by_key

-- the root is a table
abbrev pub RootIsTable : List TrieNode → Type 0
RootIsTable nodes = holds_at nodes 0 ≡ by_key

-- the node is an array
pub record IsArray (nodes : List TrieNode) (i : ℕ) : Type 0 where
  pub within : i < length nodes
  pub listed : holds_at nodes i ≡ by_index
  pub plain : is_tables (state_at nodes i) ≡ false

-- the children of arrays are their items, and those of arrays of tables their elements, in order
pub record IsShaped (nodes : List TrieNode) : Type 0 where
  pub elements : (i k : ℕ) → i < length nodes → holds_at nodes i ≡ by_index → k < length (children_of nodes i)
      → path_at nodes (slice_index_or (children_of nodes i) k 0) ≡ path_at nodes i ++ index k ∷ []
  pub plain : (i k : ℕ) → i < length nodes → is_tables (state_at nodes i) ≡ true → k < length (children_of nodes i)
      → (state_at nodes (slice_index_or (children_of nodes i) k 0) ≡ None)
      × (holds_at nodes (slice_index_or (children_of nodes i) k 0) ≡ by_key)
  pub marked : (i : ℕ) (p : List Part) (k : List ℕ) → i < length nodes → path_at nodes i ≡ p ++ key k ∷ []
      → IsSome (state_at nodes i)
  pub fits : (i : ℕ) (s : Role) → i < length nodes → state_at nodes i ≡ Some s → Fits s (holds_at nodes i)

-- arrays of tables have as many elements as earlier `[[..]]` lines have the path
pub record AreTables (nodes : List TrieNode) (tables : List (List Part)) : Type 0 where
  pub counts : (i : ℕ) → i < length nodes
      → elements_of (path_at nodes i) tables
      ≡ (if is_tables (state_at nodes i) then length (children_of nodes i) else 0)
  pub unmet : (p : List Part) → (Contains (paths_of nodes) p → ⊥) → elements_of p tables ≡ 0

-- each array of tables has an element
abbrev pub AllBegun : List TrieNode → Type 0
AllBegun nodes = (i : ℕ) → i < length nodes → is_tables (state_at nodes i) ≡ true → 0 < length (children_of nodes i)
