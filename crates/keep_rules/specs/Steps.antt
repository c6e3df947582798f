-- Steps through the nodes: along the keys of a header or a keyval, and to an item of an array.
use Rattle.std.specs.Prelude.{◌≡◌, ℕ, ◌<◌, ◌≤◌, false, List, [], ◌∷◌, ◌++◌, length, map}
use Rattle.keep_path.specs.Path.{Part, key, index}
use Rattle.keep_meaning.specs.Fact.{Fact}
use Rattle.keep_meaning.specs.Marks.{Mention, value, item}
use Rattle.keep_index_store.specs.Trie.{TrieNode, Holding, path_at, state_at, holds_at, children_of}
use Rattle.keep_rules.specs.Tables.{is_tables, IsShaped, IsTable}
use Rattle.keep_rules.specs.Represents.{Keeps, KeepsItems, Represents, IsOpen}
use Rattle.keep_rules.specs.Descents.{descent_path, descent_mentions, dotted_mentions}

-- a header went down these keys, from the root to the node `to`
pub record HeaderDescent (old new : List TrieNode) (to : ℕ) (ks : List (List ℕ)) : Type 0 where
  pub keeps : Keeps old new
  pub table : IsTable new to
  pub represents : (ms : List Mention) (tables : List (List Part)) → Represents old ms tables
      → Represents new (ms ++ descent_mentions tables [] ks) tables
  pub is_open : (ms : List Mention) (tables : List (List Part)) → Represents old ms tables
      → IsOpen new to (descent_path tables [] ks)

-- a keyval went down these keys, from a node to the node `to`
pub record DottedDescent (old new : List TrieNode) (at to : ℕ) (ks : List (List ℕ)) : Type 0 where
  pub keeps : Keeps old new
  pub items : KeepsItems old new
  pub represents : (ms : List Mention) (tables : List (List Part)) → Represents old ms tables
      → Represents new (ms ++ dotted_mentions (path_at old at) ks) tables
  pub is_open : IsOpen new to (path_at old at ++ map key ks)

-- a new node of this path, which may have these children
pub record IsMade (old new : List TrieNode) (to : ℕ) (path : List Part) (holds : Holding) : Type 0 where
  pub later : length old ≤ to
  pub plain : is_tables (state_at new to) ≡ false
  pub nested : to < length new
  pub here : path_at new to ≡ path
  pub held : holds_at new to ≡ holds
  pub bare : children_of new to ≡ []

-- a keyval with these keys defined a value as the node `to`, which may have these children
pub record HasNewValue (old new : List TrieNode) (at to : ℕ) (leading : List (List ℕ)) (last : List ℕ) (holds : Holding)
    : Type 0 where
  pub keeps : Keeps old new
  pub shaped : IsShaped new
  pub items : KeepsItems old new
  pub represents : (f : Fact) (ms : List Mention) (tables : List (List Part)) → Represents old ms tables
      → Represents new (ms ++ (dotted_mentions (path_at old at) leading
      ++ record { path = (path_at old at ++ map key leading) ++ key last ∷ []; kind = value f } ∷ [])) tables
  pub made : IsMade old new to ((path_at old at ++ map key leading) ++ key last ∷ []) holds

-- an array at a node got one more item, the node `to`, which may have these children
pub record AddsItem (old new : List TrieNode) (at to : ℕ) (holds : Holding) : Type 0 where
  pub keeps : Keeps old new
  pub shaped : IsShaped new
  pub items : (i : ℕ) → i < length old → (i ≡ at → ⊥) → children_of new i ≡ children_of old i
  pub own : children_of new at ≡ children_of old at ++ length old ∷ []
  pub represents : (f : Fact) (ms : List Mention) (tables : List (List Part)) → Represents old ms tables
      → Represents new (ms ++ record {
        path = path_at old at ++ index (length (children_of old at)) ∷ [];
        kind = item f;
      } ∷ []) tables
  pub made : IsMade old new to (path_at old at ++ index (length (children_of old at)) ∷ []) holds
