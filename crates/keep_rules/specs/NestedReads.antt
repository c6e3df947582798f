-- What reading nested values does to the nodes and to the facts about them.
use Rattle.std.specs.Prelude.{◌≡◌, ℕ, ◌+◌, ◌<◌, List, [], ◌∷◌, ◌++◌, length}
use Rattle.keep_path.specs.Path.{Part}
use Rattle.keep_meaning.specs.Marks.{Mention}
use Rattle.keep_meaning.specs.Counts.{Count, numbered_mentions}
use Rattle.keep_rules.specs.NestedValues.{NestingState, NestedValue, nested_item, nested_keyed, all_nested_mentions}
use Rattle.keep_rules.specs.NestedValues.{nesting_after}
use Rattle.keep_index_store.specs.Trie.{TrieNode}
use Rattle.keep_rules.specs.Tables.{IsShaped}
use Rattle.keep_rules.specs.Represents.{Keeps, Represents}
use Rattle.keep_rules.specs.Reads.{AreValueNodes}
use Rattle.keep_path.specs.NodeInfos.{NodeInfos}
use Rattle.keep_rules.specs.MentionInfos.{with_mentions, ValuesAreNew}

-- how many key parts a value has
abbrev pub nested_keys : NestedValue → ℕ
nested_keys (nested_item o f) = 0
nested_keys (nested_keyed o ks f) = length ks

-- its key has a part
abbrev pub HasKeys : NestedValue → Type 0
HasKeys (nested_item o f) = Unit {0}
HasKeys (nested_keyed o ks f) = 0 < length ks

abbrev pub all_nested_keys : List NestedValue → ℕ
all_nested_keys [] = 0
all_nested_keys (t ∷ ts) = nested_keys t + all_nested_keys ts

-- the nodes, the facts about them, and the nodes of the values so far
pub record NodesSoFar : Type 0 where
  pub trie : List TrieNode
  pub node_infos : NodeInfos
  pub ids : List ℕ

-- These nested values were read, the first of them with that number and with the key parts from `first` on.
pub record NestedRead (old new : NodesSoFar) (from first : ℕ) (s : NestingState) (ts : List NestedValue) : Type 0 where
  pub keeps : Keeps old.trie new.trie
  pub shaped : IsShaped new.trie
  pub nested : AreValueNodes new.trie new.ids (nesting_after s ts)
  pub represents : (ms : List Mention) (tables : List (List Part)) → Represents old.trie ms tables
      → Represents new.trie (ms ++ all_nested_mentions s ts) tables
  pub facts : (c : Count) → c.values ≡ from → c.keys ≡ first
      → new.node_infos ≡ with_mentions old.node_infos (numbered_mentions c (all_nested_mentions s ts))
  pub fresh : (c : Count) → c.values ≡ from → c.keys ≡ first
      → ValuesAreNew old.node_infos.paths (numbered_mentions c (all_nested_mentions s ts))
