-- The facts that reading a part of the document adds to the nodes.
use Rattle.std.specs.Prelude.{◌≡◌, ℕ, List, [], ◌∷◌, ◌++◌, length}
use Rattle.keep_types.specs.declared.node.Kind.{Kind}
use Rattle.keep_types.specs.declared.node.NodeInfo.{NodeInfo}
use Rattle.keep_meaning.specs.Fact.{Fact}
use Rattle.keep_path.specs.Path.{Part, index}
use Rattle.keep_meaning.specs.Marks.{Mention, element, begun, elements_of, Reading, Statement, statement_mentions}
use Rattle.keep_meaning.specs.Counts.{Count, numbered_mentions}
use Rattle.keep_meaning.specs.Nodes.{fact_kind}
use Rattle.keep_rules.specs.MentionInfos.{with_info, with_mentions, ValuesAreNew}
use Rattle.keep_index_store.specs.Trie.{paths_of, path_at, children_of}
use Rattle.keep_index_store.specs.Tree.{TrieInfos, node_infos}
use Rattle.keep_rules.specs.Represents.{Represents}
use Rattle.keep_rules.specs.Reads.{IsReading}
use Rattle.keep_rules.specs.NestedValues.{NestingState, nested_item, nested_keyed, path_of_value, entries_of_value}
use Rattle.keep_rules.specs.NestedValues.{nested_mentions}

-- these facts were added at a path
abbrev pub AddsInfo : TrieInfos → TrieInfos → List Part → NodeInfo → Type 0
AddsInfo old new path more = node_infos new ≡ with_info (node_infos old) path more

-- the facts from these mentions were added, with the numbers from c on
abbrev pub AddsMentions : TrieInfos → TrieInfos → Count → List Mention → Type 0
AddsMentions old new c ms = node_infos new ≡ with_mentions (node_infos old) (numbered_mentions c ms)

-- the facts from these mentions of a header were added, from the key part number k on
abbrev pub HeaderAdds : TrieInfos → TrieInfos → ℕ → ℕ → (List (List Part) → List Mention) → Type 0
HeaderAdds old new k statement mentioned =
    (ms : List Mention) (tables : List (List Part)) → Represents old.trie ms tables
    → (c : Count) → c.keys ≡ k → c.statements ≡ statement → AddsMentions old new c (mentioned tables)

-- a `[[..]]` with this full path begins an element
abbrev pub begin_mentions : List Part → List (List Part) → List Mention
begin_mentions path tables =
    record { path = path; kind = element }
    ∷ record { path = path ++ index (elements_of path tables) ∷ []; kind = begun } ∷ []

-- the facts from a statement were added
abbrev pub StatementAdds : TrieInfos → TrieInfos → ℕ → ℕ → Statement → Type 0
StatementAdds old new k statement s =
    (ms : List Mention) (r : Reading) (body : ℕ) → IsReading old.trie body ms r
    → (c : Count) → c.keys ≡ k → c.statements ≡ statement → AddsMentions old new c (statement_mentions r s)

-- the facts from a keyval's keys but the last were added, from the key part number k on
abbrev pub DottedAdds : TrieInfos → TrieInfos → ℕ → ℕ → List Mention → Type 0
DottedAdds old new k value mentioned = (c : Count) → c.keys ≡ k → c.values ≡ value → AddsMentions old new c mentioned

-- The facts about the node of a value and those that its keys pass were added; no path is given two values.
pub record AddsValue (old new : TrieInfos) (c : Count) (mentioned : List Mention) : Type 0 where
  pub joined : AddsMentions old new c mentioned
  pub fresh : ValuesAreNew (paths_of old.trie) (numbered_mentions c mentioned)

-- a value with a key, in the value at a node
abbrev pub KeyedAdds : TrieInfos → TrieInfos → ℕ → ℕ → List (List ℕ) → ℕ → Kind → Type 0
KeyedAdds old new from k keys number kind =
    (s : NestingState) (o : ℕ) (f : Fact) → path_at old.trie from ≡ path_of_value s o → fact_kind f ≡ kind
    → (c : Count) → c.values ≡ number → c.keys ≡ k
    → AddsValue old new c (nested_mentions s (nested_keyed o keys f))

-- an item, in the array at a node
abbrev pub ItemAdds : TrieInfos → TrieInfos → ℕ → ℕ → Kind → Type 0
ItemAdds old new array number kind =
    (s : NestingState) (o : ℕ) (f : Fact) → path_at old.trie array ≡ path_of_value s o
    → entries_of_value s o ≡ length (children_of old.trie array) → fact_kind f ≡ kind
    → (c : Count) → c.values ≡ number
    → AddsValue old new c (nested_mentions s (nested_item o f))
