-- What reading a statement of the flat list does to the nodes and to the facts about them.
use Rattle.std.specs.Prelude.{ℕ, List}
use Rattle.keep_syntax.specs.declared.fault.Why.{Why}
use Rattle.keep_types.specs.declared.syntax.Statement.{Statement}
use Rattle.keep_types.specs.declared.syntax.StatementKind.{StatementKind}
use Rattle.keep_types.specs.declared.syntax.StatementKind.TheVariants.{Element}
use Rattle.keep_syntax_store.specs.Flat.{Flat}
use Rattle.keep_rules.specs.Keys.{AreReadable, Key}
use Rattle.keep_meaning.specs.Marks as marks
use Rattle.keep_meaning.specs.Marks.{Mention, Reading, statement_mentions}
use Rattle.keep_meaning.specs.Counts.{Count}
use Rattle.keep_index_store.specs.Trie.{TrieNode}
use Rattle.keep_index_store.specs.Tree.{TrieInfos}
use Rattle.keep_rules.specs.Reads.{IsReading, Reads}
use Rattle.keep_rules.specs.AddedInfos.{AddsValue}
use Rattle.keep_rules.specs.Statements.{header_of, element_of}
use Rattle.keep_rules.specs.FlatStatements.{MatchesStatement, IsCountBefore}
use Rattle.keep_rules.specs.Represents.{FaultFrom}

-- the header with these keys
abbrev pub head_of : StatementKind → Key → marks.Statement
head_of Element k = element_of k
head_of _ k = header_of k

-- The statement of the flat list is some statement, whose key parts can be read in the text.
pub record HasStatement (bytes : List ℕ) (f : Flat) (st : Statement) : Type 0 where
  pub readable : AreReadable bytes f.keys
  pub statement : marks.Statement
  pub matches : MatchesStatement bytes f.keys f.values st statement

-- The nodes represent some mentions, with the body at that node.
abbrev pub HasReading : List TrieNode → ℕ → Type 0
HasReading nodes body = (ms : List Mention) × (r : Reading) × IsReading nodes body ms r

-- the statement was read, and its facts were added
pub record IsRead (number : ℕ) (st : Statement) (old : TrieInfos) (body : ℕ) (new : TrieInfos) (to : ℕ)
    (s : marks.Statement) : Type 0 where
  pub reads : Reads old.trie body new.trie to s
  pub joined : (ms : List Mention) (r : Reading) → IsReading old.trie body ms r → (c : Count)
      → IsCountBefore number st c → AddsValue old new c (statement_mentions r s)

-- it breaks the rules there
abbrev pub Breaks : Statement → TrieInfos → ℕ → marks.Statement → ℕ → Why → Type 0
Breaks st old body s number why =
    (ms : List Mention) (r : Reading) → IsReading old.trie body ms r
    → FaultFrom ms (statement_mentions r s) st.first_key number why

-- the statement of the flat list was read as each statement that it may be
abbrev pub IsReadAsMatched : List ℕ → Flat → ℕ → Statement → TrieInfos → ℕ → TrieInfos → ℕ → Type 0
IsReadAsMatched bytes f number st old body new to =
    (s : marks.Statement) → MatchesStatement bytes f.keys f.values st s → IsRead number st old body new to s

abbrev pub BreaksAsMatched : List ℕ → Flat → Statement → TrieInfos → ℕ → ℕ → Why → Type 0
BreaksAsMatched bytes f st old body number why =
    (s : marks.Statement) → MatchesStatement bytes f.keys f.values st s → Breaks st old body s number why
