-- The nodes, as contracts see them.
use Rattle.std.specs.Prelude.{ℕ, ◌-◌, ◌<◌, ◌^◌, List, ◌∷◌, ◌++◌, [], false, None, length, slice_index_or, slice_set}
use Rattle.keep_types.specs.declared.node.Kind.TheVariants as kind
use Rattle.keep_index_store.specs.declared.facts.OriginKind.TheVariants as origin_kind
use Rattle.keep_index_store.specs.declared.facts.NodeFacts.{NodeFacts}
use Rattle.keep_index_store.specs.Children.{ChildList, Bare, Keyed, Listed, named, child_ids, no_children}
use Rattle.keep_index_store.specs.Trie.{Holding}
use Rattle.keep_index_store.specs.KeyMaps.{with_key_at}

-- the parent of a node, its number among the children there, its own children, and the facts about it
pub record Node : Type 0 where
  pub parent : ℕ
  pub number : ℕ
  pub children : ChildList
  pub facts : NodeFacts

pub record AllNodes : Type 0 where
  pub items : List Node

-- in place of a node that is not there
abbrev pub no_node : Node
no_node = record {
  parent = 0;
  number = 0;
  children = Bare;
  facts = record {
    role = None;
    kind = kind.Table;
    passed = false;
    origin = origin_kind.Root;
    marks = 0;
    key = 0;
    number = 0;
  };
}

abbrev pub node_at : List Node → ℕ → Node
node_at nodes i = slice_index_or nodes i no_node

-- the nodes, where one has these children
abbrev pub with_children : List Node → ℕ → ChildList → List Node
with_children nodes i children = slice_set nodes i (record (node_at nodes i) { children = children })

-- the nodes, where one has these facts
abbrev pub with_facts : List Node → ℕ → NodeFacts → List Node
with_facts nodes i facts = slice_set nodes i (record (node_at nodes i) { facts = facts })

-- a child more, by its key
abbrev pub and_key : ChildList → List ℕ → ℕ → ChildList
and_key children text child = Keyed (named children ++ (text, child) ∷ [])

-- the nodes with one more below a table, by a key
abbrev pub with_key_below : List Node → ℕ → List ℕ → Holding → NodeFacts → List Node
with_key_below nodes parent text h facts =
    with_children nodes parent (and_key (node_at nodes parent).children text (length nodes))
    ++ record {
      parent = parent;
      number = length (child_ids (node_at nodes parent).children);
      children = no_children h;
      facts = facts;
    } ∷ []

-- an item or element more
abbrev pub and_item : ChildList → ℕ → ChildList
and_item children child = Listed (child_ids children ++ child ∷ [])

-- the children, where that one has this key
abbrev pub with_key : ChildList → ℕ → List ℕ → ChildList
with_key children n text = Keyed (with_key_at (named children) n text)

-- both numbers of the parent link can be greater by one in 32 bits
abbrev pub HasSmallLink : Node → Type 0
HasSmallLink n = (n.parent < 2 ^ 32 - 1) × (n.number < 2 ^ 32 - 1)
