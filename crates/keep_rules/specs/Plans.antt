-- The nested values in the flat list from a number on, and what reading them does.
use Rattle.std.specs.Prelude.{◌≡◌, ℕ, ◌+◌, List, [], ◌∷◌, length, Some, slice_get}
use Rattle.keep_syntax.specs.declared.fault.Why.{Why}
use Rattle.keep_types.specs.declared.syntax.KeyPart.{KeyPart}
use Rattle.keep_types.specs.declared.syntax.ValueInfo.{ValueInfo}
use Rattle.keep_syntax_store.specs.Flat.{Flat}
use Rattle.keep_path.specs.Path.{Part}
use Rattle.keep_meaning.specs.Marks.{Mention}
use Rattle.keep_rules.specs.NestedValues.{NestingState, NestedValue, Suits, AllSuit, nested_mentions}
use Rattle.keep_rules.specs.NestedValues.{all_nested_mentions}
use Rattle.keep_rules.specs.Keys.{AreReadable}
use Rattle.keep_index_store.specs.Trie.{TrieNode}
use Rattle.keep_index_store.specs.Tree.{TrieInfos, node_infos}
use Rattle.keep_rules.specs.Represents.{Represents, FaultFrom}
use Rattle.keep_rules.specs.Reads.{AreValueNodes}
use Rattle.keep_rules.specs.NestedReads.{nested_keys, HasKeys, NodesSoFar, NestedRead}
use Rattle.keep_rules.specs.FlatValues.{MatchesNested, IsNested}

-- the stored nodes, with the nodes of the values so far
abbrev pub nodes_so_far : TrieInfos → List ℕ → NodesSoFar
nodes_so_far nodes ids = record { trie = nodes.trie; node_infos = node_infos nodes; ids = ids }

-- the value with that number is in no value
abbrev pub EndsAt : List ValueInfo → ℕ → Type 0
EndsAt values number = (info : ValueInfo) → slice_get values number ≡ Some info → IsNested info.owner → ⊥

-- Those from a number on, with the key parts from `first` on, are these nested values; what follows is in no value.
abbrev pub MatchNested : List ℕ → Flat → ℕ → ℕ → ℕ → List NestedValue → Type 0
MatchNested bytes f base from first [] = EndsAt f.values from
MatchNested bytes f base from first (t ∷ ts) =
    (info : ValueInfo) × (slice_get f.values from ≡ Some info) × MatchesNested bytes f.keys base t info × HasKeys t
    × (info.first_key ≡ first) × MatchNested bytes f base (from + 1) (first + nested_keys t) ts

-- this value of the flat list is that nested value, which may come next in the values so far
pub record IsNext (bytes : List ℕ) (parts : List KeyPart) (nodes : List TrieNode) (ids : List ℕ) (base : ℕ)
    (info : ValueInfo) (s : NestingState) (t : NestedValue) : Type 0 where
  pub nested : AreValueNodes nodes ids s
  pub suits : Suits s t
  pub matches : MatchesNested bytes parts base t info
  pub keys : HasKeys t

-- the values from a number on are nested values that may come next
pub record AreNext (bytes : List ℕ) (f : Flat) (nodes : List TrieNode) (ids : List ℕ) (base from first : ℕ)
    (s : NestingState) (ts : List NestedValue) : Type 0 where
  pub nested : AreValueNodes nodes ids s
  pub suit : AllSuit s ts
  pub matches : MatchNested bytes f base from first ts

-- The value with that number can be read as some nested value that may come next. `ids` are the nodes of those so far,
-- of which the second is that of the value number `base`.
pub record IsNextValue (bytes : List ℕ) (parts : List KeyPart) (nodes : List TrieNode) (ids : List ℕ) (base number : ℕ)
    (info : ValueInfo) : Type 0 where
  pub readable : AreReadable bytes parts
  pub numbered : base + length ids ≡ number + 1
  pub next : (s : NestingState) × (t : NestedValue) × IsNext bytes parts nodes ids base info s t

-- the values from a number on can be read as some nested values that may come next
pub record AreNextValues (bytes : List ℕ) (f : Flat) (nodes : List TrieNode) (ids : List ℕ) (base from : ℕ)
    : Type 0 where
  pub readable : AreReadable bytes f.keys
  pub numbered : base + length ids ≡ from + 1
  pub next : (s : NestingState) × (ts : List NestedValue) × (first : ℕ) × AreNext bytes f nodes ids base from first s ts

-- the value was read as each nested value that it may be
abbrev pub NestedValueRead : List ℕ → Flat → ℕ → ValueInfo → TrieInfos → List ℕ → TrieInfos → List ℕ → ℕ → Type 0
NestedValueRead bytes f base info old ids new ids' number =
    (s : NestingState) (t : NestedValue) → IsNext bytes f.keys old.trie ids base info s t
    → NestedRead (nodes_so_far old ids) (nodes_so_far new ids') number info.first_key s (t ∷ [])

-- it breaks the rules there
abbrev pub NestedValueFaults : List ℕ → Flat → ℕ → ValueInfo → TrieInfos → List ℕ → ℕ → Why → Type 0
NestedValueFaults bytes f base info old ids number why =
    (s : NestingState) (t : NestedValue) → IsNext bytes f.keys old.trie ids base info s t
    → (ms : List Mention) (tables : List (List Part)) → Represents old.trie ms tables
    → FaultFrom ms (nested_mentions s t) info.first_key number why

-- the values from a number on were read as all nested values that they may be
abbrev pub NestedValuesRead : List ℕ → Flat → ℕ → ℕ → TrieInfos → List ℕ → TrieInfos → List ℕ → Type 0
NestedValuesRead bytes f base from old ids new ids' =
    (s : NestingState) (ts : List NestedValue) (first : ℕ) → AreNext bytes f old.trie ids base from first s ts
    → NestedRead (nodes_so_far old ids) (nodes_so_far new ids') from first s ts

-- one of them breaks the rules there
abbrev pub NestedValuesFault : List ℕ → Flat → ℕ → ℕ → TrieInfos → List ℕ → ℕ → Why → Type 0
NestedValuesFault bytes f base from old ids number why =
    (s : NestingState) (ts : List NestedValue) (first : ℕ) → AreNext bytes f old.trie ids base from first s ts
    → (ms : List Mention) (tables : List (List Part)) → Represents old.trie ms tables
    → FaultFrom ms (all_nested_mentions s ts) first number why
