-- What defining does to the nodes and to the facts about them.
use Rattle.std.specs.Prelude.{ℕ, List, []}
use Rattle.keep_types.specs.declared.node.Kind.{Kind}
use Rattle.keep_types.specs.declared.node.NodeInfo.{NodeInfo}
use Rattle.keep_types.specs.declared.role.Role.{Role}
use Rattle.keep_index_store.specs.Tree.{TrieInfos}
use Rattle.keep_index_store.specs.Trie.{Holding, path_at}
use Rattle.keep_meaning.specs.Marks.{Statement, passing_mentions}
use Rattle.keep_path.specs.Path.{Part}
use Rattle.keep_rules.specs.AddedInfos.{AddsInfo, DottedAdds, HeaderAdds, ItemAdds, KeyedAdds, StatementAdds}
use Rattle.keep_rules.specs.Descents.{descent_mentions, dotted_mentions}
use Rattle.keep_rules.specs.Keys.{Key, last_text, leading_texts}
use Rattle.keep_rules.specs.Reads.{Reads}
use Rattle.keep_rules.specs.Represents.{Enters, IsDefined, key_path}
use Rattle.keep_rules.specs.Steps.{AddsItem, DottedDescent, HasNewValue, HeaderDescent}

-- A key part of this role defined the node `to` of this path, which may have these children if it is new.
pub record Defines (old new : TrieInfos) (path : List Part) (role : Role) (holds : Holding) (info : NodeInfo) (to : ℕ)
    : Type 0 where
  pub node : IsDefined old.trie new.trie path role holds to
  pub facts : AddsInfo old new path info

-- The header of that statement entered the node `to` by a key of a table.
pub record EntersKey (old new : TrieInfos) (table : ℕ) (text : List ℕ) (part statement to : ℕ) : Type 0 where
  pub node : Enters old.trie new.trie table to text
  pub facts : HeaderAdds old new part statement (λ tables. passing_mentions tables (key_path old.trie table text))

-- The header of that statement went down all its keys but the last, from the root to the node `to`.
pub record DescendsHeader (old new : TrieInfos) (k : Key) (statement to : ℕ) : Type 0 where
  pub node : HeaderDescent old.trie new.trie to (leading_texts k)
  pub facts : HeaderAdds old new k.first statement (λ tables. descent_mentions tables [] (leading_texts k))

-- The value with that number went down all its keys but the last, from a table to the node `to`.
pub record DescendsDotted (old new : TrieInfos) (table : ℕ) (k : Key) (value to : ℕ) : Type 0 where
  pub node : DottedDescent old.trie new.trie table to (leading_texts k)
  pub facts : DottedAdds old new k.first value (dotted_mentions (path_at old.trie table) (leading_texts k))

-- The value with that number and kind, which may have these children, was defined in a table as the node `to`.
pub record DefinesValue (old new : TrieInfos) (table : ℕ) (k : Key) (value : ℕ) (kind : Kind) (holds : Holding) (to : ℕ)
    : Type 0 where
  pub node : HasNewValue old.trie new.trie table to (leading_texts k) (last_text k) holds
  pub facts : KeyedAdds old new table k.first k.texts value kind

-- The value with that number and kind, which may have these children, was defined in an array as the node `to`.
pub record DefinesItem (old new : TrieInfos) (array value : ℕ) (kind : Kind) (holds : Holding) (to : ℕ) : Type 0 where
  pub node : AddsItem old.trie new.trie array to holds
  pub facts : ItemAdds old new array value kind

-- The header of that statement, whose first key part has the number `first`, defined or began the node `to`.
pub record DefinesHead (old new : TrieInfos) (first statement : ℕ) (s : Statement) (to : ℕ) : Type 0 where
  pub node : (body : ℕ) → Reads old.trie body new.trie to s
  pub facts : StatementAdds old new first statement s
