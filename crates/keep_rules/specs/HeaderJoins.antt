-- A header after the end of a document, where it goes through the nodes of the document's index: what it joins there.
use Rattle.std.specs.Prelude.{◌≡◌, ℕ, suc, ◌<◌, ◌≤◌, List, [], ◌∷◌, ◌++◌, Contains, length}
use Rattle.keep_types.specs.declared.node.Kind.TheVariants as kind
use Rattle.keep_types.specs.declared.node.Origin.TheVariants as origin
use Rattle.keep_syntax.specs.Tree.{Document}
use Rattle.keep_path.specs.NodeInfos.{NodeInfos}
use Rattle.keep_path.specs.Path.{Part, key}
use Rattle.keep_meaning.specs.Counts.{Count, numbered_mentions}
use Rattle.keep_meaning.specs.Marks.{elements_of}
use Rattle.keep_meaning.specs.StatementsMore.{reading_at_end}
use Rattle.keep_index_store.specs.declared.tree.joining.Join.{Join}
use Rattle.keep_index_store.specs.declared.tree.joining.HeaderFacts.{HeaderFacts}
use Rattle.keep_index_store.specs.Facts.{info_of, named_info}
use Rattle.keep_index_store.specs.Joined.{joined_all}
use Rattle.keep_index_store.specs.KeysBelow.{AddsKeys, first_key}
use Rattle.keep_index_store.specs.Tree.{TrieInfos, node_infos}
use Rattle.keep_index_store.specs.Trie.{by_index, children_of, holds_at, path_at, paths_of}
use Rattle.keep_rules.specs.Descents.{descent_mentions, descent_path}
use Rattle.keep_rules.specs.MentionInfos.{with_info, with_mentions}
use Rattle.keep_rules.specs.ReadDocuments.{IsIndexOf}

-- the full paths of the `[[..]]` lines of a document
abbrev pub tables_at_end : Document → List (List Part)
tables_at_end d = (reading_at_end d).tables

-- each is of a later node than the one before, from `low` on, and none of a later one than `last`
abbrev pub AreUpTo : ℕ → ℕ → List Join → Type 0
AreUpTo low last [] = low ≤ suc last
AreUpTo low last (j ∷ js) = (low ≤ j.id) × AreUpTo (suc j.id) last js

-- the nodes, where these facts are joined to theirs
abbrev pub with_joins : TrieInfos → List Join → NodeInfos
with_joins t joins = record { paths = paths_of t.trie; infos = joined_all t.infos joins }

-- A header of that statement, whose first key part has the number `first`, goes through these keys to the node `to`,
-- and joins these facts to those of the nodes that it goes through.
pub record PassesKeys (t : TrieInfos) (joins : List Join) (statement first : ℕ) (keys : List (List ℕ)) (to : ℕ)
    : Type 0 where
  pub within : to < length t.trie
  pub ascending : AreUpTo 0 to joins
  pub leads : (d : Document) → IsIndexOf d (node_infos t)
      → path_at t.trie to ≡ descent_path (tables_at_end d) [] keys
  pub joined : (d : Document) → IsIndexOf d (node_infos t)
      → (c : Count) → c.keys ≡ first → c.statements ≡ statement
      → with_joins t joins
      ≡ with_mentions (node_infos t) (numbered_mentions c (descent_mentions (tables_at_end d) [] keys))

-- with a table more for each of these keys, which a header goes through, each below the one before it and the first
-- below that path; the first key has the number `part`
abbrev pub with_through : NodeInfos → List Part → ℕ → ℕ → List (List ℕ) → NodeInfos
with_through t path part statement [] = t
with_through t path part statement (k ∷ ks) =
    with_through (with_info t (path ++ key k ∷ []) (named_info kind.Table part (origin.Through statement)))
    (path ++ key k ∷ []) (suc part) statement ks

-- the facts of the tables that a header of that statement goes through, of which the first has that key part
pub record IsThrough (facts : HeaderFacts) (part statement : ℕ) : Type 0 where
  pub info : info_of facts.through ≡ named_info kind.Table part (origin.Through statement)
  pub first : facts.through.key ≡ part

-- These facts are joined to those of their nodes, and each of these keys, of which the first had no node, has one.
pub record AddsHeader (old new : TrieInfos) (joins : List Join) (at : ℕ) (leading : List (List ℕ)) (last : List ℕ)
    (facts : HeaderFacts) : Type 0 where
  pub fresh : Contains (paths_of old.trie) (path_at old.trie at ++ key (first_key leading last) ∷ []) → ⊥
  pub adds : AddsKeys old new joins at leading last facts

-- the array of tables at a path: it has as many elements as the document has `[[..]]` lines with the path
pub record IsTablesOf (t : TrieInfos) (path : List Part) (array : ℕ) : Type 0 where
  pub within : array < length t.trie
  pub here : path_at t.trie array ≡ path
  pub listed : holds_at t.trie array ≡ by_index
  pub counted : (d : Document) → IsIndexOf d (node_infos t)
      → elements_of (path_at t.trie array) (tables_at_end d) ≡ length (children_of t.trie array)
