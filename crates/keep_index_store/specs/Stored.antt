-- The tree of steps that the stored nodes represent.
use Rattle.std.specs.Prelude.{◌≡◌, ℕ, ◌<◌, List, [], length, map, slice_index_or, Option, Some, None, slice_get}
use Rattle.keep_index_store.specs.AllNodes.{Node}
use Rattle.keep_types.specs.declared.node.NodeInfo.{NodeInfo}
use Rattle.keep_path.specs.Path.{Part, key, index}
use Rattle.keep_index_store.specs.Children.{holds_of, named, child_ids}
use Rattle.keep_index_store.specs.Trie.{TrieNode, Holding, by_key, IsTrie, children_of}
use Rattle.keep_index_store.specs.Facts.{info_of}

-- the step of the child with that number: its key, or the number
abbrev pub step_at : List (List ℕ × ℕ) → Holding → ℕ → Part
step_at names by_key number = key (slice_index_or names number ([], 0)).0
step_at names _ number = index number

abbrev pub step_in : Option Node → ℕ → Part
step_in None number = index number
step_in (Some above) number = step_at (named above.children) (holds_of above.children) number

abbrev pub trie_node_in : List Node → Node → TrieNode
trie_node_in nodes n =
    record {
      parent = n.parent;
      part = step_in (slice_get nodes n.parent) n.number;
      state = n.facts.role;
      holds = holds_of n.children;
    }

abbrev pub trie_of : List Node → List TrieNode
trie_of nodes = map (trie_node_in nodes) nodes

-- each has the number under which it is stored
abbrev pub AreNumbered : List Node → List ℕ → Type 0
AreNumbered nodes ids =
    (k : ℕ) (d : Node) → k < length ids → (slice_index_or nodes (slice_index_or ids k 0) d).number ≡ k

-- each node stores its children, in order and by their own keys
pub record IsStored (nodes : List Node) : Type 0 where
  pub trie : IsTrie (trie_of nodes)
  pub kids : (i : ℕ) (d : Node) → i < length nodes
      → child_ids (slice_index_or nodes i d).children ≡ children_of (trie_of nodes) i
  pub numbers : (i : ℕ) (d : Node) → i < length nodes
      → AreNumbered nodes (child_ids (slice_index_or nodes i d).children)

-- ---- the facts about them

abbrev pub infos_of : List Node → List NodeInfo
infos_of nodes = map (λ n. info_of n.facts) nodes
