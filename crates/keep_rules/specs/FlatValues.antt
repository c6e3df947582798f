-- How the flat list of a document's values matches its tree.
use Rattle.std.specs.Prelude.{◌≡◌, ℕ, ◌+◌, ◌≤◌, List, [], ◌∷◌, length, ⊤}
use Rattle.std.specs.List.{AllZip}
use Rattle.keep_types.specs.declared.leaf.Leaf.{Leaf}
use Rattle.keep_types.specs.declared.leaf.Leaf.TheVariants as leaf
use Rattle.keep_types.specs.declared.syntax.KeyPart.{KeyPart}
use Rattle.keep_types.specs.declared.syntax.Owner.{Owner}
use Rattle.keep_types.specs.declared.syntax.Owner.TheVariants as owner
use Rattle.keep_types.specs.declared.syntax.ValueInfo.{ValueInfo}
use Rattle.keep_syntax.specs.Tree.{Name, Value}
use Rattle.keep_syntax.specs.Grammar.{Place, in_scalar, in_array, in_inline}
use Rattle.keep_types.specs.Kinds.{leaf_kind}
use Rattle.keep_meaning.specs.Fact.{Fact}
use Rattle.keep_rules.specs.NestedValues.{NestedValue, nested_item, nested_keyed, holding_of, nested_fact}
use Rattle.keep_rules.specs.NestedValues.{nested_values}
use Rattle.keep_meaning.specs.KeyText.{keys_in}
use Rattle.keep_meaning.specs.Meaning.{keys_of, body_fact}
use Rattle.keep_meaning.specs.Nodes.{fact_kind}
use Rattle.keep_index_store.specs.Trie.{Holding, nothing, by_key, by_index}

-- what children it may have
abbrev pub leaf_holding : Leaf → Holding
leaf_holding leaf.ArrayOpen = by_index
leaf_holding leaf.InlineOpen = by_key
leaf_holding _ = nothing

-- the leaf has the kind and the children of this fact
pub record LeafMatches (l : Leaf) (f : Fact) : Type 0 where
  pub kind : fact_kind f ≡ leaf_kind l
  pub holds : holding_of f ≡ leaf_holding l

-- ---- the values in one value

-- An item is in its array, and what has a key in its inline table. The value of the number `base` in the document
-- is number 1 here, since number 0 is what the whole is in.
abbrev pub IsOwned : List ℕ → List KeyPart → ℕ → NestedValue → ValueInfo → Type 0
IsOwned bytes parts base (nested_item o f) info = (g : ℕ) × (info.owner ≡ owner.Item g) × (g + 1 ≡ base + o)
IsOwned bytes parts base (nested_keyed o ks f) info =
    (g : ℕ) × (info.owner ≡ owner.Inline g) × (g + 1 ≡ base + o)
    × (keys_in bytes parts info.first_key info.keys ≡ ks) × (info.first_key + info.keys ≤ length parts)

-- this value of the flat list is that nested value
pub record MatchesNested (bytes : List ℕ) (parts : List KeyPart) (base : ℕ) (t : NestedValue) (info : ValueInfo)
    : Type 0 where
  pub kind : fact_kind (nested_fact t) ≡ leaf_kind info.leaf
  pub holds : holding_of (nested_fact t) ≡ leaf_holding info.leaf
  pub owned : IsOwned bytes parts base t info

-- this value of the flat list is that of a line's keyval, with its keys
pub record MatchesKeyval (bytes : List ℕ) (parts : List KeyPart) (ks : List (List ℕ)) (f : Fact) (info : ValueInfo)
    : Type 0 where
  pub kind : fact_kind f ≡ leaf_kind info.leaf
  pub holds : holding_of f ≡ leaf_holding info.leaf
  pub keys : keys_in bytes parts info.first_key info.keys ≡ ks
  pub within : info.first_key + info.keys ≤ length parts

-- these values of the flat list are those of a keyval: its own, which has this number, and those inside
abbrev pub MatchKeyval : List ℕ → List KeyPart → ℕ → Name → Value → List ValueInfo → Type 0
MatchKeyval bytes parts base name v [] = ⊥
MatchKeyval bytes parts base name v (first ∷ nested) =
    MatchesKeyval bytes parts (keys_of name.key) (body_fact v.body) first
    × AllZip (MatchesNested bytes parts base) (nested_values 1 2 v.nested) nested

-- these values of the flat list are those of a value alone
abbrev pub MatchAlone : List ℕ → List KeyPart → Value → List ValueInfo → Type 0
MatchAlone bytes parts v [] = ⊥
MatchAlone bytes parts v (first ∷ nested) =
    LeafMatches first.leaf (body_fact v.body) × AllZip (MatchesNested bytes parts 1) (nested_values 0 1 v.nested) nested

-- the entries of this owner are in the value of the number o
abbrev pub OwnsEntries : Place → ℕ → ℕ → Owner → Type 0
OwnsEntries in_scalar base o w = ⊤
OwnsEntries in_array base o w = (g : ℕ) × (w ≡ owner.Item g) × (g + 1 ≡ base + o)
OwnsEntries in_inline base o w = (g : ℕ) × (w ≡ owner.Inline g) × (g + 1 ≡ base + o)

-- in another value, and not in a line
abbrev pub IsNested : Owner → Type 0
IsNested (owner.Line s) = ⊥
IsNested (owner.Inline g) = ⊤
IsNested (owner.Item g) = ⊤
