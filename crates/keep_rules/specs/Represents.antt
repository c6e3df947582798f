-- How the nodes represent the mentions so far, and what a key part, an element and an item do to them.
use Rattle.std.specs.Prelude.{◌≡◌, ℕ, ◌+◌, ◌<◌, ◌≤◌, ◌-◌, List, [], ◌∷◌, ◌++◌, length, Some, slice_index_or, true}
use Rattle.std.specs.Prelude.{false}
use Rattle.keep_syntax.specs.declared.fault.Why.{Why}
use Rattle.keep_types.specs.declared.role.Role.{Role}
use Rattle.keep_types.specs.declared.role.Role.TheVariants.{Element, Through, Value}
use Rattle.keep_path.specs.Path.{Part, key, index}
use Rattle.keep_meaning.specs.Rules.{allows, ObeysRules, IsRefused, why_of}
use Rattle.keep_meaning.specs.Marks.{MentionKind, Mention, marks, role_of, passing_mentions, entered_path, elements_of}
use Rattle.keep_meaning.specs.Marks.{element, begun}
use Rattle.keep_index_store.specs.Trie.{TrieNode, Holding, by_key, by_index, IsTrie, path_at, state_at, holds_at}
use Rattle.keep_index_store.specs.Trie.{children_of}
use Rattle.keep_rules.specs.Tables.{is_tables, IsShaped, IsTable, AreTables, AllBegun}
use Rattle.keep_rules.specs.RoleStates.{IsIndexOf}

-- the path of the node that a key of this text names in a table
abbrev pub key_path : List TrieNode → ℕ → List ℕ → List Part
key_path nodes table text = path_at nodes table ++ key text ∷ []

-- its last step is a key
abbrev pub IsKeyPath : List Part → Type 0
IsKeyPath path = (before : List Part) × (k : List ℕ) × (path ≡ before ++ key k ∷ [])

-- the nodes before keep their numbers and paths, and what children they may have
pub record Keeps (old new : List TrieNode) : Type 0 where
  pub longer : length old ≤ length new
  pub paths : (i : ℕ) → i < length old → path_at new i ≡ path_at old i
  pub holdings : (i : ℕ) → i < length old → holds_at new i ≡ holds_at old i
  pub kinds : (i : ℕ) → i < length old → is_tables (state_at new i) ≡ is_tables (state_at old i)

-- arrays and arrays of tables have no more children than before
abbrev pub KeepsItems : List TrieNode → List TrieNode → Type 0
KeepsItems old new = (i : ℕ) → i < length old → holds_at old i ≡ by_index → children_of new i ≡ children_of old i

-- a key part of this role defined what is at the path, the node `id`; a new node may have these children
pub record IsDefined (old new : List TrieNode) (path : List Part) (role : Role) (holds : Holding) (id : ℕ)
    : Type 0 where
  pub trie : IsTrie new
  pub shaped : IsShaped new
  pub keeps : Keeps old new
  pub items : KeepsItems old new
  pub nested : id < length new
  pub here : path_at new id ≡ path
  pub index : (ms : List Mention) (mention_kind : MentionKind) → role_of mention_kind ≡ Some role → IsIndexOf old ms
      → IsIndexOf new (ms ++ record { path = path; kind = mention_kind } ∷ [])
  pub kind : is_tables (state_at new id) ≡ allows role Element
  pub opened : allows role Through ≡ true → holds_at new id ≡ by_key
  pub valued : role ≡ Value → (holds_at new id ≡ holds) × (children_of new id ≡ []) × (length old ≤ id)
  pub tables : (ts : List (List Part)) → AreTables old ts → AreTables new ts
  pub begun : allows role Element ≡ false → AllBegun old → AllBegun new
  pub begun_others : AllBegun old → (i : ℕ) → i < length new → (i ≡ id → ⊥) → is_tables (state_at new i) ≡ true
      → 0 < length (children_of new i)

-- some earlier key part does not allow one of this role at this path
abbrev pub WasRefused : List TrieNode → List Part → Role → Type 0
WasRefused nodes path role =
    (ms : List Mention) → IsIndexOf nodes ms → IsRefused (marks ms) (record { role = role; path = path })

-- the key part of the number `at` is not allowed, as one of this role at this path
pub record IsRefusedAt (nodes : List TrieNode) (path : List Part) (role : Role) (at number : ℕ) (why : Why)
    : Type 0 where
  pub place : number ≡ at
  pub reason : why ≡ why_of role
  pub refused : WasRefused nodes path role

-- the path is not that of an array of tables
abbrev pub HasNoElement : List TrieNode → List Part → Type 0
HasNoElement nodes path =
    (tables : List (List Part)) → AreTables nodes tables → AllBegun nodes → elements_of path tables ≡ 0

-- the key part with that number does not let a header go on below this path, which is of no array of tables
pub record IsEntryRefusedAt (nodes : List TrieNode) (path : List Part) (part number : ℕ) (why : Why) : Type 0 where
  pub stops : IsRefusedAt nodes path Through part number why
  pub plain : HasNoElement nodes path

-- the nodes represent these mentions, with these `[[..]]` lines
pub record Represents (nodes : List TrieNode) (ms : List Mention) (tables : List (List Part)) : Type 0 where
  pub index : IsIndexOf nodes ms
  pub shaped : IsShaped nodes
  pub tables_are : AreTables nodes tables
  pub begun : AllBegun nodes

-- the node `at` has this path, and may have children by keys
pub record IsOpen (nodes : List TrieNode) (at : ℕ) (path : List Part) : Type 0 where
  pub nested : at < length nodes
  pub here : path_at nodes at ≡ path
  pub open_to : holds_at nodes at ≡ by_key

-- the array of tables at a path, and its last element, which is a table
pub record IsLastElement (nodes : List TrieNode) (path : List Part) (child to : ℕ) : Type 0 where
  pub nested : child < length nodes
  pub here : path_at nodes child ≡ path
  pub tables : is_tables (state_at nodes child) ≡ true
  pub some : 0 < length (children_of nodes child)
  pub last : to ≡ slice_index_or (children_of nodes child) (length (children_of nodes child) - 1) 0
  pub table : IsTable nodes to

-- a header entered the node `to` by a key of the table `at`
pub record Enters (old new : List TrieNode) (at to : ℕ) (k : List ℕ) : Type 0 where
  pub keeps : Keeps old new
  pub table : IsTable new to
  pub represents : (ms : List Mention) (tables : List (List Part)) → Represents old ms tables
      → Represents new (ms ++ passing_mentions tables (path_at old at ++ key k ∷ [])) tables
  pub is_open : (ms : List Mention) (tables : List (List Part)) → Represents old ms tables
      → IsOpen new to (entered_path tables (path_at old at ++ key k ∷ []))

-- a `[[..]]` whose last key is k began an element, from a node to the element's node `to`
pub record Begins (old new : List TrieNode) (at to : ℕ) (k : List ℕ) : Type 0 where
  pub keeps : Keeps old new
  pub shaped : IsShaped new
  pub represents : (ms : List Mention) (tables : List (List Part)) → Represents old ms tables
      → Represents new (ms ++ record { path = path_at old at ++ key k ∷ []; kind = element }
      ∷ record {
        path = (path_at old at ++ key k ∷ []) ++ index (elements_of (path_at old at ++ key k ∷ []) tables)
            ∷ [];
        kind = begun;
      } ∷ [])
      (tables ++ (path_at old at ++ key k ∷ []) ∷ [])
  pub is_open : (ms : List Mention) (tables : List (List Part)) → Represents old ms tables
      → IsOpen new to ((path_at old at ++ key k ∷ []) ++ index (elements_of (path_at old at ++ key k ∷ []) tables) ∷ [])

-- the first faulty mark is among these mentions, after so many of their marks
pub record FaultIn (ms more : List Mention) (number : ℕ) (why : Why) : Type 0 where
  pub done : List Mention
  pub faulty : Mention
  pub rest : List Mention
  pub here : more ≡ done ++ faulty ∷ rest
  pub role : Role
  pub is : role_of faulty.kind ≡ Some role
  pub count : length (marks done) ≡ number
  pub obeys : ObeysRules (marks (ms ++ done))
  pub refused : IsRefused (marks (ms ++ done)) (record { role = role; path = faulty.path })
  pub reason : why ≡ why_of role

-- Among these mentions, which have the key parts from `first` on, the key part with that number makes the first faulty
-- mark.
pub record FaultFrom (ms more : List Mention) (first number : ℕ) (why : Why) : Type 0 where
  pub within : ℕ
  pub sum : number ≡ first + within
  pub fault : FaultIn ms more within why
