-- The values in a value as a list: outer ones before those inside, each with the number of what it is in.
use Rattle.std.specs.Prelude.{◌≡◌, ℕ, suc, ◌+◌, ◌<◌, List, [], ◌∷◌, ◌++◌, length, map, Option, Some, None}
use Rattle.std.specs.Prelude.{slice_index_or, slice_set}
use Rattle.keep_syntax.specs.Tree.{Name, Entries, none, entry, Value}
use Rattle.keep_syntax.specs.Numbered.{value_count}
use Rattle.keep_meaning.specs.Fact as fact
use Rattle.keep_meaning.specs.Fact.{Fact}
use Rattle.keep_path.specs.Path.{Part, key, index}
use Rattle.keep_meaning.specs.Marks as marks
use Rattle.keep_meaning.specs.Marks.{Mention, below}
use Rattle.keep_meaning.specs.Meaning.{keys_of, body_fact, keyed_mentions}
use Rattle.keep_index_store.specs.Trie.{Holding, nothing, by_key, by_index}

-- one nested value: an item, or one with a key, in the value with that number
pub data NestedValue : Type 0 where
  nested_item : (owner : ℕ) → Fact → NestedValue
  nested_keyed : (owner : ℕ) → List (List ℕ) → Fact → NestedValue

-- what children a value may have
abbrev pub holding_of : Fact → Holding
holding_of fact.array = by_index
holding_of fact.inline = by_key
holding_of fact.table = by_key
holding_of _ = nothing

abbrev pub entry_nested : ℕ → Option Name → Fact → NestedValue
entry_nested owner None f = nested_item owner f
entry_nested owner (Some name) f = nested_keyed owner (keys_of name.key) f

-- the nested values of the entries of the value `owner`; v is the number of the first
abbrev pub nested_values : ℕ → ℕ → Entries → List NestedValue
nested_values owner v none = []
nested_values owner v (entry name body nested after comma rest) =
    entry_nested owner name (body_fact body)
    ∷ (nested_values v (suc v) nested ++ nested_values owner (suc v + value_count nested) rest)

-- The nesting state: of each value so far its path, what children it may have, and how many entries it has so far.
pub record NestingState : Type 0 where
  pub paths : List (List Part)
  pub holdings : List Holding
  pub entries : List ℕ

abbrev pub path_of_value : NestingState → ℕ → List Part
path_of_value s o = slice_index_or s.paths o []

abbrev pub entries_of_value : NestingState → ℕ → ℕ
entries_of_value s o = slice_index_or s.entries o 0

abbrev pub holding_of_value : NestingState → ℕ → Holding
holding_of_value s o = slice_index_or s.holdings o nothing

-- the mentions of one nested value
abbrev pub nested_mentions : NestingState → NestedValue → List Mention
nested_mentions s (nested_item o f) =
    record { path = path_of_value s o ++ index (entries_of_value s o) ∷ []; kind = marks.item f } ∷ []
nested_mentions s (nested_keyed o ks f) =
    map (below (path_of_value s o)) (keyed_mentions ks (record { path = []; kind = marks.value f } ∷ []))

abbrev pub nested_path : NestingState → NestedValue → List Part
nested_path s (nested_item o f) = path_of_value s o ++ index (entries_of_value s o) ∷ []
nested_path s (nested_keyed o ks f) = path_of_value s o ++ map key ks

abbrev pub nested_owner : NestedValue → ℕ
nested_owner (nested_item o f) = o
nested_owner (nested_keyed o ks f) = o

abbrev pub nested_fact : NestedValue → Fact
nested_fact (nested_item o f) = f
nested_fact (nested_keyed o ks f) = f

-- the nesting state after one more value
abbrev pub next_nesting : NestingState → NestedValue → NestingState
next_nesting s t = record {
  paths = s.paths ++ nested_path s t ∷ [];
  holdings = s.holdings ++ holding_of (nested_fact t) ∷ [];
  entries = slice_set s.entries (nested_owner t) (entries_of_value s (nested_owner t) + 1) ++ 0 ∷ [];
}

abbrev pub all_nested_mentions : NestingState → List NestedValue → List Mention
all_nested_mentions s [] = []
all_nested_mentions s (t ∷ ts) = nested_mentions s t ++ all_nested_mentions (next_nesting s t) ts

abbrev pub nesting_after : NestingState → List NestedValue → NestingState
nesting_after s [] = s
nesting_after s (t ∷ ts) = nesting_after (next_nesting s t) ts

-- items are in arrays, and what has a key in inline tables and bodies
abbrev pub Suits : NestingState → NestedValue → Type 0
Suits s (nested_item o f) = (o < length s.paths) × (holding_of_value s o ≡ by_index)
Suits s (nested_keyed o ks f) = (o < length s.paths) × (holding_of_value s o ≡ by_key)

abbrev pub AllSuit : NestingState → List NestedValue → Type 0
AllSuit s [] = Unit {0}
AllSuit s (t ∷ ts) = Suits s t × AllSuit (next_nesting s t) ts

-- the entries fit what they are in
abbrev pub NameSuits : Holding → Option Name → Type 0
NameSuits by_index None = Unit {0}
NameSuits by_key (Some name) = Unit {0}
NameSuits _ _ = ⊥

abbrev pub EntriesSuit : Holding → Entries → Type 0
EntriesSuit h none = Unit {0}
EntriesSuit h (entry name body nested after comma rest) =
    NameSuits h name × EntriesSuit (holding_of (body_fact body)) nested × EntriesSuit h rest

-- the state in a table of this path, with nothing in it yet
abbrev pub body_nesting : List Part → NestingState
body_nesting path = record { paths = path ∷ []; holdings = by_key ∷ []; entries = 0 ∷ [] }

-- the state in a value alone
abbrev pub value_nesting : Fact → NestingState
value_nesting f = record { paths = [] ∷ []; holdings = holding_of f ∷ []; entries = 0 ∷ [] }

-- the values of a keyval in a body
abbrev pub keyval_nested : Name → Value → List NestedValue
keyval_nested name v = nested_keyed 0 (keys_of name.key) (body_fact v.body) ∷ nested_values 1 2 v.nested
