-- What reading a statement, or a value in it, does to the nodes.
use Rattle.std.specs.Prelude.{◌≡◌, ℕ, ◌<◌, false, List, ◌++◌, length, slice_index_or}
use Rattle.keep_syntax.specs.declared.fault.Why.{Why}
use Rattle.keep_meaning.specs.Fact.{Fact}
use Rattle.keep_path.specs.Path.{Part}
use Rattle.keep_meaning.specs.Marks.{Mention, Reading, Statement, statement_mentions, next_reading}
use Rattle.keep_index_store.specs.Trie.{TrieNode, by_key, by_index, path_at, state_at, holds_at, children_of}
use Rattle.keep_rules.specs.Tables.{is_tables}
use Rattle.keep_rules.specs.Represents.{Represents, IsOpen, FaultFrom}
use Rattle.keep_rules.specs.NestedValues.{NestingState, path_of_value, holding_of_value, entries_of_value}
use Rattle.keep_rules.specs.NestedValues.{nested_keyed, nested_mentions}

-- the nodes represent the mentions so far, and the node `body` is that of the reading's body
pub record IsReading (nodes : List TrieNode) (body : ℕ) (ms : List Mention) (r : Reading) : Type 0 where
  pub represents : Represents nodes ms r.tables
  pub rooted : holds_at nodes 0 ≡ by_key
  pub is_open : IsOpen nodes body r.body

-- reading a statement takes the one to the other
abbrev pub Reads : List TrieNode → ℕ → List TrieNode → ℕ → Statement → Type 0
Reads old body new to s =
    (ms : List Mention) (r : Reading) → IsReading old body ms r
    → IsReading new to (ms ++ statement_mentions r s) (next_reading r s)

-- the statement has the first faulty mark, at the key part with that number: its key parts are those from `first` on
abbrev pub FaultsIn : List TrieNode → ℕ → Statement → ℕ → ℕ → Why → Type 0
FaultsIn old body s first number why =
    (ms : List Mention) (r : Reading) → IsReading old body ms r → FaultFrom ms (statement_mentions r s) first number why

-- the keys of a value in the table at a node have the first faulty mark
abbrev pub KeyedFaults : List TrieNode → ℕ → ℕ → List (List ℕ) → ℕ → Why → Type 0
KeyedFaults nodes table first keys number why =
    (s : NestingState) (o : ℕ) (f : Fact) → path_at nodes table ≡ path_of_value s o
    → (ms : List Mention) (tables : List (List Part)) → Represents nodes ms tables
    → FaultFrom ms (nested_mentions s (nested_keyed o keys f)) first number why

-- the node of the value number j
pub record IsValueNode (nodes : List TrieNode) (id : ℕ) (s : NestingState) (j : ℕ) : Type 0 where
  pub nested : id < length nodes
  pub here : path_at nodes id ≡ path_of_value s j
  pub held : holds_at nodes id ≡ holding_of_value s j
  pub plain : is_tables (state_at nodes id) ≡ false
  pub listed : holding_of_value s j ≡ by_index → length (children_of nodes id) ≡ entries_of_value s j

-- these are the nodes of the values so far
pub record AreValueNodes (nodes : List TrieNode) (ids : List ℕ) (s : NestingState) : Type 0 where
  pub paths : length s.paths ≡ length ids
  pub holdings : length s.holdings ≡ length ids
  pub entries : length s.entries ≡ length ids
  pub each : (j : ℕ) → j < length ids → IsValueNode nodes (slice_index_or ids j 0) s j
  pub distinct : (i j : ℕ) → i < length ids → j < length ids → slice_index_or ids i 0 ≡ slice_index_or ids j 0 → i ≡ j
