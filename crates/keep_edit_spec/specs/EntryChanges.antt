-- Edits of entries, as changes of the value alone that holds the entry.
use Rattle.std.specs.Prelude.{◌≡◌, ⊤, ℕ, suc, max, ◌≤◌, false, List, [], ◌∷◌, ◌++◌, Some, IsUtf8, drop, take}
use Rattle.std.specs.List.{AllByRecursion, list_any}
use Rattle.keep_types.specs.declared.leaf.Profile.{Profile}
use Rattle.keep_types.specs.declared.leaf.Profile.TheVariants.{Wide}
use Rattle.keep_syntax.specs.Tree as tree
use Rattle.keep_syntax.specs.Tree.{Document, Entries, Value, entry, none, value_depth, value_text}
use Rattle.keep_path.specs.Path.{Part, index, key}
use Rattle.keep_meaning.specs.Fact as fact
use Rattle.keep_meaning.specs.Meaning.{body_fact, mentions_of_value}
use Rattle.keep_meaning.specs.Nodes.{is_at}
use Rattle.keep_edit_spec.specs.Changed.{Changed}
use Rattle.keep_edit_spec.specs.Edits.{Edit, insert, name_with, remove}
use Rattle.keep_edit_spec.specs.EntryEdits.{MakesSet}
use Rattle.keep_edit_spec.specs.Laws.{IsEditable, IsGivenValue}
use Rattle.keep_edit_spec.specs.Look.{keys_in}
use Rattle.keep_edit_spec.specs.Runs.{path_of}
use Rattle.keep_edit_spec.specs.SetValues.{SetsValue}
use Rattle.keep_edit_spec.specs.TextChanges.{TextChange}
use Rattle.keep_edit_spec.specs.Values.{put_item, put_named, removal}

-- ---- what is made of the value

-- how many entries there are
abbrev pub entry_count : Entries → ℕ
entry_count none = 0
entry_count (entry name body nested after comma rest) = suc (entry_count rest)

-- A value comes into an array as its item with that number; so many items or more are there.
pub record PutsItem (was : Value) (n : ℕ) (new now : Value) : Type 0 where
  pub made : Changed Value
  pub by : put_item new (index n ∷ []) was ≡ Some made
  pub is : made.to ≡ now
  pub array : body_fact was.body ≡ fact.array
  pub few : n ≤ entry_count was.nested

-- A value comes into an inline table by a key at which nothing is there.
pub record PutsKeyval (was : Value) (name : List ℕ) (new now : Value) : Type 0 where
  pub made : Changed Value
  pub by : put_named name_with 1 new (key name ∷ []) was ≡ Some made
  pub is : made.to ≡ now
  pub inline : body_fact was.body ≡ fact.inline
  pub free : list_any (is_at (key name ∷ [])) (mentions_of_value was) ≡ false
  pub utf8 : IsUtf8 name

-- The entry of that part goes.
pub record TakesEntry (was : Value) (part : Part) (now : Value) : Type 0 where
  pub made : Changed Value
  pub by : removal (part ∷ []) was ≡ Some made
  pub is : made.to ≡ now

-- what an edit of the entry of that part makes of the value that holds it
abbrev pub MakesOfValue : Value → Edit → Part → Value → Type 0
MakesOfValue was (insert path new) (index n) now = PutsItem was n new now
MakesOfValue was (insert path new) (key name) now = PutsKeyval was name new now
MakesOfValue was (remove path) part now = TakesEntry was part now
MakesOfValue was _ part now = ⊥

-- an insert's value obeys the grammar and the rules
abbrev pub IsGivenTo : Profile → Edit → Type 0
IsGivenTo profile (insert path new) = IsGivenValue profile new
IsGivenTo profile _ = ⊤

-- ---- laws

-- What is made of a value is a value: of the same profile's grammar, and by the rules of definition. An item or a
-- keyval is inside it, one deeper; without an entry it is no deeper.
abbrev pub PutItemIsValue : Type 0
PutItemIsValue =
    (profile : Profile) (was : Value) (n : ℕ) (new now : Value)
    → IsGivenValue profile was → IsGivenValue profile new → PutsItem was n new now
    → IsGivenValue profile now × (value_depth now ≡ max (value_depth was) (suc (value_depth new)))

abbrev pub PutKeyvalIsValue : Type 0
PutKeyvalIsValue =
    (profile : Profile) (was : Value) (name : List ℕ) (new now : Value)
    → IsGivenValue profile was → IsGivenValue profile new → PutsKeyval was name new now
    → IsGivenValue profile now × (value_depth now ≡ max (value_depth was) (suc (value_depth new)))

abbrev pub TakenEntryIsValue : Type 0
TakenEntryIsValue =
    (profile : Profile) (was : Value) (part : Part) (now : Value)
    → IsGivenValue profile was → TakesEntry was part now
    → IsGivenValue profile now × (value_depth now ≤ value_depth was)

-- In any document where that value is at a path, and can be set to what is made of it, the edit makes what the set
-- makes.
abbrev pub EntryChangeIsSet : Type 0
EntryChangeIsSet =
    (profile : Profile) (limit : ℕ) (s : Document) (path : List Part) (part : Part) (e : Edit) (was now : Value)
    (c : TextChange)
    → IsEditable profile limit s → path_of e ≡ path ++ part ∷ [] → AllByRecursion IsUtf8 (keys_in (path_of e))
    → IsGivenTo Wide e → IsGivenValue Wide was
    → take c.size (drop c.at (tree.text s)) ≡ value_text was
    → MakesOfValue was e part now
    → SetsValue profile limit s path now c
    → MakesSet profile limit s e path now c
