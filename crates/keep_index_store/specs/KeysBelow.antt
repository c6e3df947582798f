-- Nodes that come each below the one before it, by their keys: tables, and below the last of them one more.
use Rattle.std.specs.Prelude.{◌≡◌, ℕ, suc, ◌-◌, ◌<◌, ◌≤◌, List, [], ◌∷◌, ◌++◌, length, take, Option, None, Some}
use Rattle.keep_types.specs.declared.node.NodeInfo.{NodeInfo}
pub use Rattle.keep_path.specs.KeysAlone.{paths_below}
use Rattle.keep_path.specs.Path.{Part, index, key}
use Rattle.keep_index_store.specs.declared.facts.NodeFacts.{NodeFacts}
use Rattle.keep_index_store.specs.declared.tree.joining.HeaderFacts.{HeaderFacts}
use Rattle.keep_index_store.specs.AllNodes.{Node, and_item, and_key, node_at, with_children, with_key_below}
use Rattle.keep_index_store.specs.Children.{holds_of, no_children}
use Rattle.keep_index_store.specs.Facts.{info_of}
use Rattle.keep_index_store.specs.Joined.{joined_all}
use Rattle.keep_index_store.specs.Tree.{TrieInfos}
use Rattle.keep_index_store.specs.Trie.{Holding, IsTrie, by_index, by_key, holds_at, path_at, paths_of}
use Rattle.keep_index_store.specs.declared.tree.joining.Join.{Join}

-- the key that comes first
abbrev pub first_key : List (List ℕ) → List ℕ → List ℕ
first_key [] last = last
first_key (k ∷ ks) last = k

-- the facts of a node that the next key part names
abbrev pub next_facts : NodeFacts → NodeFacts
next_facts f = record f { key = suc f.key }

-- what children the node of the last key may have: an array of tables has an element
abbrev pub own_holding : Option NodeFacts → Holding
own_holding None = by_key
own_holding (Some element) = by_index

-- ---- the tree

abbrev pub element_paths : List Part → Option NodeFacts → List (List Part)
element_paths path None = []
element_paths path (Some element) = (path ++ index 0 ∷ []) ∷ []

abbrev pub element_infos : Option NodeFacts → List NodeInfo
element_infos None = []
element_infos (Some element) = info_of element ∷ []

-- the path to which these keys lead
abbrev pub path_below : List Part → List (List ℕ) → List Part
path_below path [] = path
path_below path (k ∷ ks) = path_below (path ++ key k ∷ []) ks

-- the facts of the tables of these keys
abbrev pub infos_below : NodeFacts → List (List ℕ) → List NodeInfo
infos_below f [] = []
infos_below f (k ∷ ks) = info_of f ∷ infos_below (next_facts f) ks

-- These facts are joined to those of their nodes, and each of these keys has a new node below that of the one before
-- it, the first of them below a node that is there.
pub record AddsKeys (old new : TrieInfos) (joins : List Join) (parent : ℕ) (leading : List (List ℕ)) (last : List ℕ)
    (facts : HeaderFacts) : Type 0 where
  pub trie : IsTrie new.trie
  pub paths : paths_of new.trie ≡ (paths_of old.trie ++ paths_below (path_at old.trie parent) leading)
      ++ ((path_below (path_at old.trie parent) leading ++ key last ∷ [])
      ∷ element_paths (path_below (path_at old.trie parent) leading ++ key last ∷ []) facts.element)
  pub infos : new.infos ≡ (joined_all old.infos joins ++ infos_below facts.through leading)
      ++ (info_of facts.own ∷ element_infos facts.element)
  pub root : holds_at new.trie 0 ≡ holds_at old.trie 0

-- ---- the nodes

abbrev pub with_tables_below : List Node → ℕ → NodeFacts → List (List ℕ) → List Node
with_tables_below nodes parent f [] = nodes
with_tables_below nodes parent f (k ∷ ks) =
    with_tables_below (with_key_below nodes parent k by_key f) (length nodes) (next_facts f) ks

-- the number of the last of these tables; without one it is `parent`
abbrev pub last_table : List Node → ℕ → NodeFacts → List (List ℕ) → ℕ
last_table nodes parent f [] = parent
last_table nodes parent f (k ∷ ks) =
    last_table (with_key_below nodes parent k by_key f) (length nodes) (next_facts f) ks

abbrev pub with_keys_below : List Node → ℕ → HeaderFacts → List (List ℕ) → List ℕ → List Node
with_keys_below nodes parent facts leading last =
    with_key_below (with_tables_below nodes parent facts.through leading)
    (last_table nodes parent facts.through leading) last (own_holding facts.element) facts.own

-- with a first element below an array of tables
abbrev pub with_element_below : List Node → ℕ → NodeFacts → List Node
with_element_below nodes array facts =
    with_children nodes array (and_item (node_at nodes array).children (length nodes))
    ++ record { parent = array; number = 0; children = no_children by_key; facts = facts } ∷ []

-- with that of the last node, if it is such an array
abbrev pub with_element : List Node → Option NodeFacts → List Node
with_element nodes None = nodes
with_element nodes (Some element) = with_element_below nodes (length nodes - 1) element

abbrev pub with_header_below : List Node → ℕ → HeaderFacts → List (List ℕ) → List ℕ → List Node
with_header_below nodes parent facts leading last =
    with_element (with_keys_below nodes parent facts leading last) facts.element

-- Of such nodes so many have come: none, or a first one below a node that was there, by this key, and others after it.
pub record HasBegun (old new : List Node) (parent : ℕ) (text : List ℕ) : Type 0 where
  pub within : parent < length old
  pub keyed : holds_of (node_at old parent).children ≡ by_key
  pub longer : length old ≤ length new
  pub none : length new ≡ length old → new ≡ old
  pub some : length old < length new
      → take (length old) new ≡ with_children old parent (and_key (node_at old parent).children text (length old))
