-- What the calls answer that define or read a part of a document: it was done, or a key part was refused.
use Rattle.std.specs.Prelude.{◌≡◌, ℕ, List, [], ◌∷◌, ◌++◌, IfNone, IfOk, IfSome, OnErr, OnOk, Option, Result}
use Rattle.keep_types.specs.declared.node.Kind.{Kind}
use Rattle.keep_types.specs.declared.node.NodeInfo.{NodeInfo}
use Rattle.keep_types.specs.declared.role.Role.{Role}
use Rattle.keep_types.specs.declared.syntax.Statement.{Statement}
use Rattle.keep_types.specs.declared.syntax.ValueInfo.{ValueInfo}
use Rattle.keep_syntax_store.specs.Flat.{Flat}
use Rattle.keep_index_store.specs.Tree.{TrieInfos}
use Rattle.keep_index_store.specs.Trie.{TrieNode, Holding, path_at}
use Rattle.keep_meaning.specs.Marks as marks
use Rattle.keep_meaning.specs.Marks.{Mention}
use Rattle.keep_path.specs.Path.{Part}
use Rattle.keep_rules.specs.declared.definitions.DefineFault.{DefineFault}
use Rattle.keep_rules.specs.DefineFaults.{IfRefused}
use Rattle.keep_rules.specs.Defines.{Defines, DefinesHead, DefinesValue, DescendsDotted, DescendsHeader, EntersKey}
use Rattle.keep_rules.specs.Descents.{descent_mentions, dotted_mentions}
use Rattle.keep_rules.specs.Keys.{Key, leading_texts}
use Rattle.keep_rules.specs.Plans.{NestedValueFaults, NestedValueRead, NestedValuesFault, NestedValuesRead}
use Rattle.keep_rules.specs.ReadStatements.{BreaksAsMatched, IsReadAsMatched}
use Rattle.keep_rules.specs.Reads.{FaultsIn, KeyedFaults}
use Rattle.keep_rules.specs.Represents.{FaultFrom, HasNoElement, IsEntryRefusedAt, IsLastElement, IsRefusedAt}
use Rattle.keep_rules.specs.Represents.{Represents, key_path}

-- ---- key parts

-- The key part with that number defines the node of this path, or is refused; after an error all is as before.
pub record DefinesOrRefuses (old new : TrieInfos) (path : List Part) (role : Role) (holds : Holding) (info : NodeInfo)
    (part : ℕ) (r : Result ℕ DefineFault) : Type 0 where
  pub ok : IfOk r (Defines old new path role holds info)
  pub refused : IfRefused r (IsRefusedAt old.trie path role part)
  pub unchanged : OnErr r (new ≡ old)

-- The key part with that number enters a table for a header, or is refused; after an error all is as before.
pub record EntersOrRefuses (old new : TrieInfos) (table : ℕ) (text : List ℕ) (part statement : ℕ)
    (r : Result ℕ DefineFault) : Type 0 where
  pub ok : IfOk r (EntersKey old new table text part statement)
  pub refused : IfRefused r (IsEntryRefusedAt old.trie (key_path old.trie table text) part)
  pub unchanged : OnErr r (new ≡ old)

-- the last element of the array of tables at a node, which is None exactly where there is none
pub record IsLastElementOf (nodes : List TrieNode) (id : ℕ) (o : Option ℕ) : Type 0 where
  pub some : IfSome o (IsLastElement nodes (path_at nodes id) id)
  pub none : IfNone o (HasNoElement nodes (path_at nodes id))

-- ---- keys

-- a header goes down all its keys but the last, or one of them is refused
pub record DescendsHeaderOrRefuses (old new : TrieInfos) (k : Key) (statement : ℕ) (r : Result ℕ DefineFault)
    : Type 0 where
  pub ok : IfOk r (DescendsHeader old new k statement)
  pub define : IfRefused r (λ part why. (ms : List Mention) (tables : List (List Part)) → Represents old.trie ms tables
      → FaultFrom ms (descent_mentions tables [] (leading_texts k)) k.first part why)

-- a value goes down all its keys but the last, or one of them is refused
pub record DescendsDottedOrRefuses (old new : TrieInfos) (table : ℕ) (k : Key) (value : ℕ) (r : Result ℕ DefineFault)
    : Type 0 where
  pub ok : IfOk r (DescendsDotted old new table k value)
  pub define : IfRefused r (λ part why. (ms : List Mention) (tables : List (List Part)) → Represents old.trie ms tables
      → FaultFrom ms (dotted_mentions (path_at old.trie table) (leading_texts k)) k.first part why)

-- a value is defined by its keys in a table, or one of them is refused
pub record DefinesValueOrRefuses (old new : TrieInfos) (table : ℕ) (k : Key) (value : ℕ) (kind : Kind) (holds : Holding)
    (r : Result ℕ DefineFault) : Type 0 where
  pub ok : IfOk r (DefinesValue old new table k value kind holds)
  pub define : IfRefused r (KeyedFaults old.trie table k.first k.texts)

-- a header defines its table or begins its element, or one of its keys is refused
pub record DefinesHeadOrRefuses (old new : TrieInfos) (first statement : ℕ) (s : marks.Statement)
    (r : Result ℕ DefineFault) : Type 0 where
  pub ok : IfOk r (DefinesHead old new first statement s)
  pub define : IfRefused r (λ part why. (body : ℕ) → FaultsIn old.trie body s first part why)

-- ---- statements and values

-- a statement of the flat list is read, or a key part in it is refused
pub record ReadsStatementOrRefuses (bytes : List ℕ) (f : Flat) (number : ℕ) (st : Statement) (old : TrieInfos)
    (body : ℕ) (new : TrieInfos) (r : Result ℕ DefineFault) : Type 0 where
  pub read : IfOk r (IsReadAsMatched bytes f number st old body new)
  pub define : IfRefused r (BreaksAsMatched bytes f st old body)

-- a nested value of the flat list is read, or a key part of it is refused
pub record ReadsValueOrRefuses (bytes : List ℕ) (f : Flat) (base : ℕ) (info : ValueInfo) (old : TrieInfos)
    (ids : List ℕ) (new : TrieInfos) (number : ℕ) (r : Result ℕ DefineFault) : Type 0 where
  pub was_read : IfOk r (λ id. NestedValueRead bytes f base info old ids new (ids ++ id ∷ []) number)
  pub define : IfRefused r (NestedValueFaults bytes f base info old ids)

-- the nested values of the flat list from a number on are read, or a key part in them is refused
pub record ReadsValuesOrRefuses (bytes : List ℕ) (f : Flat) (base from : ℕ) (old : TrieInfos) (ids : List ℕ)
    (new : TrieInfos) (ids' : List ℕ) (r : Result Unit DefineFault) : Type 0 where
  pub was_read : OnOk r (NestedValuesRead bytes f base from old ids new ids')
  pub define : IfRefused r (NestedValuesFault bytes f base from old ids)
