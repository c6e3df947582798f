-- The facts about all nodes, where each number of a statement, a value or a key part from one on changes, as a line of
-- one keyval comes or goes.
use Rattle.std.specs.Prelude.{◌≢◌, ℕ, ◌+◌, ◌-◌, ◌^◌, ◌==◌, if◌then◌else◌, List, [], ◌∷◌, Option, Some, None, IfSome}
use Rattle.std.specs.List.{AllByRecursion}
use Rattle.keep_types.specs.declared.node.Origin.{Origin}
use Rattle.keep_types.specs.declared.node.Origin.TheVariants as origin
use Rattle.keep_types.specs.declared.node.NodeInfo.{NodeInfo}
use Rattle.keep_path.specs.NodeInfos as infos
use Rattle.keep_index_store.specs.declared.facts.OriginKind.{OriginKind}
use Rattle.keep_index_store.specs.declared.facts.OriginKind.TheVariants as origin_kind
use Rattle.keep_index_store.specs.declared.facts.NodeFacts.{NodeFacts}
use Rattle.keep_index_store.specs.declared.nodes.Node.{Node as StoredNode}
use Rattle.keep_index_store.specs.declared.packed.ShortFacts.{ShortFacts}
use Rattle.keep_index_store.specs.declared.renumbering.LineNumbers.{LineNumbers}
use Rattle.keep_index_store.specs.AllNodes.{Node}
use Rattle.keep_index_store.specs.Facts.{info_of, origin_of}

-- the numbers of a line, as the definitions of all layers have them
abbrev pub numbers_of : LineNumbers → infos.LineNumbers
numbers_of line = record { statement = line.statement; value = line.value; key = line.key }

-- the line's number of the sort that a place names, if it names one
abbrev pub number_for : LineNumbers → OriginKind → Option ℕ
number_for line origin_kind.Root = None
number_for line origin_kind.Value = Some line.value
number_for line origin_kind.Header = Some line.statement
number_for line origin_kind.Element = Some line.statement
number_for line origin_kind.Dotted = Some line.value
number_for line origin_kind.Through = Some line.statement
number_for line origin_kind.Tables = None

-- the least number of a place of that kind that changes with the line, or the largest of 64 bits
abbrev pub least_number : LineNumbers → OriginKind → ℕ
least_number line origin_kind.Root = 2 ^ 64 - 1
least_number line origin_kind.Through = line.statement
least_number line origin_kind.Dotted = line.value
least_number line origin_kind.Header = line.statement
least_number line origin_kind.Element = line.statement
least_number line origin_kind.Tables = 2 ^ 64 - 1
least_number line origin_kind.Value = line.value

-- the same of all kinds, in their order
abbrev pub least_numbers : LineNumbers → List ℕ
least_numbers line =
    (2 ^ 64 - 1) ∷ line.statement ∷ line.value ∷ line.statement ∷ line.statement ∷ (2 ^ 64 - 1) ∷ line.value ∷ []

-- the line's number of a key part, if one names the node
abbrev pub key_for : LineNumbers → ℕ → Option ℕ
key_for line marks = if marks == 0 then None else Some line.key

-- a number, changed by the line's number of its sort, if it has one
abbrev pub renumbered_by : (ℕ → ℕ → ℕ) → Option ℕ → ℕ → ℕ
renumbered_by by None n = n
renumbered_by by (Some at) n = by at n

-- the facts where each number that is there changes so
abbrev pub renumbered_facts : (ℕ → ℕ → ℕ) → LineNumbers → NodeFacts → NodeFacts
renumbered_facts by line t = record t {
  key = renumbered_by by (key_for line t.marks) t.key;
  number = renumbered_by by (number_for line t.origin) t.number;
}

-- the same of packed facts
abbrev pub renumbered_short : (ℕ → ℕ → ℕ) → LineNumbers → ShortFacts → ShortFacts
renumbered_short by line s = record s {
  key = renumbered_by by (key_for line s.marks) s.key;
  number = renumbered_by by (number_for line s.origin) s.number;
}

-- a node with these facts, and the same node without its parent link
abbrev pub renumbered_node : (ℕ → ℕ → ℕ) → LineNumbers → Node → Node
renumbered_node by line n = record n { facts = renumbered_facts by line n.facts }

abbrev pub renumbered_stored : (ℕ → ℕ → ℕ) → LineNumbers → StoredNode → StoredNode
renumbered_stored by line n = record n { facts = renumbered_facts by line n.facts }

-- ---- what can be greater by one where it is stored

-- a number that is the greatest neither of 32 bits nor of 64
abbrev pub CanGrow : ℕ → Type 0
CanGrow n = (n + 1 ≢ 2 ^ 32) × (n + 1 ≢ 2 ^ 64)

abbrev pub OriginCanGrow : Origin → Type 0
OriginCanGrow origin.Root = Unit {0}
OriginCanGrow (origin.Value n) = CanGrow n
OriginCanGrow (origin.Header n) = CanGrow n
OriginCanGrow (origin.Element n) = CanGrow n
OriginCanGrow (origin.Dotted n) = CanGrow n
OriginCanGrow (origin.Through n) = CanGrow n
OriginCanGrow origin.Tables = Unit {0}

-- each number that the facts have
abbrev pub InfoCanGrow : NodeInfo → Type 0
InfoCanGrow i = (IfSome i.key CanGrow) × (OriginCanGrow i.origin)

-- each number of packed facts
abbrev pub ShortCanGrow : ShortFacts → Type 0
ShortCanGrow s =
    (IfSome (if s.marks == 0 then None else Some s.key) CanGrow) × (OriginCanGrow (origin_of s.origin s.number))

-- each number of all nodes, and of all nodes without their parent links
abbrev pub NodesCanGrow : List Node → Type 0
NodesCanGrow nodes = AllByRecursion (λ n. InfoCanGrow (info_of n.facts)) nodes

abbrev pub StoredCanGrow : List StoredNode → Type 0
StoredCanGrow nodes = AllByRecursion (λ n. InfoCanGrow (info_of n.facts)) nodes
