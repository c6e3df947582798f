-- Arrays and inline tables whose entries are known by their places.
use Rattle.std.specs.Prelude.{◌≡◌, ⊤, ℕ, ◌+◌, List, [], ◌∷◌, length, Option, Some, None}
use Rattle.keep_types.specs.declared.leaf.Profile.TheVariants.{Strict}
use Rattle.keep_types.specs.declared.node.Kind.{Kind}
use Rattle.keep_syntax.specs.Grammar.{IsValue}
use Rattle.keep_syntax.specs.Tree.{Body, Entries, Name, Value, array, comma_leaves, entry, inline, none, scalar}
use Rattle.keep_syntax.specs.Tree.{text_of, value_depth}
use Rattle.keep_path.specs.Path.{Part}
use Rattle.keep_meaning.specs.Meaning.{body_fact, key_value}
use Rattle.keep_meaning.specs.Nodes.{fact_kind}
use Rattle.keep_edit_spec.specs.EntryChanges.{PutsItem, PutsKeyval, TakesEntry}
use Rattle.keep_edit_spec.specs.Values.{entry_prefix}
use Rattle.keep_edit_plan.specs.KeyNumbers.{HasKey}
use Rattle.keep_edit_plan.specs.Reading.{IsTextOfValue}
use Rattle.keep_edit_plan.specs.declared.open_value.EntryPlace.{EntryPlace}
use Rattle.keep_edit_plan.specs.declared.open_value.key_numbers.KeyNumbers.{KeyNumbers}

-- ---- the places of entries

-- Each entry is so many bytes long up to the end of its value, and so many come before it, after the one before. The
-- first number is how many come before the first.
abbrev pub AreLaid : ℕ → Entries → List EntryPlace → Type 0
AreLaid gap none [] = ⊤
AreLaid gap (entry name body nested after comma rest) (p ∷ ps) =
    (p.gap ≡ gap)
    × ((p.len ≡ length (entry_prefix name body nested))
    × AreLaid (length (text_of after) + length (text_of (comma_leaves comma))) rest ps)
AreLaid gap entries places = ⊥

-- how many bytes come before the first entry, after the bracket
abbrev pub first_gap : Body → ℕ
first_gap (scalar w) = 0
first_gap (array first) = length (text_of first)
first_gap (inline first) = length (text_of first)

abbrev pub IsBracketed : Body → Type 0
IsBracketed (scalar w) = ⊥
IsBracketed _ = ⊤

-- What the first part of a key means has this property, if there is a key.
abbrev pub FirstPartIs : (List ℕ → Type 0) → Option Name → Type 0
FirstPartIs P None = ⊤
FirstPartIs P (Some name) = P (key_value name.key.first)

-- So it is of each entry.
abbrev pub FirstPartsAre : (List ℕ → Type 0) → Entries → Type 0
FirstPartsAre P none = ⊤
FirstPartsAre P (entry name body nested after comma rest) = FirstPartIs P name × FirstPartsAre P rest

-- The text is that of an array or an inline table of TOML v1.0.0, of this depth, and its entries are at these places.
-- The numbers of its keys, by their first parts, are among these numbers, if they are known.
pub record HoldsOpen (bytes : List ℕ) (places : List EntryPlace) (keys : KeyNumbers) (kind : Kind) (depth : ℕ)
    : Type 0 where
  pub value : Value
  pub read : IsTextOfValue bytes value
  pub strict : IsValue Strict value
  pub bracketed : IsBracketed value.body
  pub is : kind ≡ fact_kind (body_fact value.body)
  pub deep : depth ≡ value_depth value
  pub laid : AreLaid (first_gap value.body) value.nested places
  pub known : FirstPartsAre (HasKey keys) value.nested

-- ---- what is made of the value with a text

-- the texts of two values, of which the first becomes the second
pub record Becomes (makes : Value → Value → Type 0) (was now : List ℕ) : Type 0 where
  pub before : Value
  pub after : Value
  pub read : IsTextOfValue was before
  pub reads : IsTextOfValue now after
  pub made : makes before after

-- a value with this text comes in as item number n
pub record PutsItemText (was : List ℕ) (n : ℕ) (item now : List ℕ) : Type 0 where
  pub value : Value
  pub is : IsTextOfValue item value
  pub puts : Becomes (λ before after. PutsItem before n value after) was now

-- a value with this text comes in by a key
pub record PutsKeyvalText (was name item now : List ℕ) : Type 0 where
  pub value : Value
  pub is : IsTextOfValue item value
  pub puts : Becomes (λ before after. PutsKeyval before name value after) was now

-- the entry of that part goes
abbrev pub TakesEntryText : List ℕ → Part → List ℕ → Type 0
TakesEntryText was part now = Becomes (λ before after. TakesEntry before part after) was now
