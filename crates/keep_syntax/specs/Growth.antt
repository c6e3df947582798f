-- What the parts that were read add to what is stored.
use Rattle.std.specs.Prelude.{◌≡◌, ℕ, zero, suc, ◌+◌, ◌≤◌, slice_index, List, [], ◌∷◌, ◌++◌, length, drop, map, Option}
use Rattle.std.specs.Prelude.{Some, None, Result, Ok, Err, ⊤, IsCharBoundary}
use Rattle.std.specs.List.{AllByRecursion, flat_map}
use Rattle.keep_types.specs.declared.leaf.Leaf.{Leaf}
use Rattle.keep_syntax.specs.declared.fault.ReadFault.{ReadFault}
use Rattle.keep_syntax.specs.declared.fault.ReadFault.TheVariants as faults
use Rattle.keep_types.specs.declared.syntax.Statement.{Statement}
use Rattle.keep_types.specs.declared.syntax.KeyPart.{KeyPart}
use Rattle.keep_types.specs.declared.syntax.ValueInfo.{ValueInfo}
use Rattle.keep_types.specs.declared.syntax.Start.{Start}
use Rattle.keep_syntax.specs.declared.info.Brackets.{Brackets}
use Rattle.keep_types.specs.declared.leaf.Profile.{Profile}
use Rattle.keep_types.specs.declared.syntax.Owner.{Owner}
use Rattle.keep_types.specs.declared.syntax.Owner.TheVariants as owner
use Rattle.keep_syntax.specs.declared.info.Brackets.TheVariants as brackets
use Rattle.keep_types.specs.declared.leaf.Leaf.TheVariants as leaf
use Rattle.keep_token.specs.Scanning.{scalar_at}
use Rattle.keep_syntax.specs.Tree.{Written, Gap, Further, Key, Name, Entries, none, Value, token, further_leaves}
use Rattle.keep_syntax.specs.Tree.{key_leaves, name_leaves, named_leaves, entries_leaves, value_leaves}
use Rattle.keep_syntax.specs.Numbered.{width, key_parts, further_parts, named_parts, entries_parts, entries_values}
use Rattle.keep_syntax.specs.Numbered.{value_values, nested_start, comma_start, comma_place}
use Rattle.keep_syntax.specs.Numbered as numbered
use Rattle.keep_syntax.specs.Reading.{Fault, Bad, Deep, Read, space_at, blank_at, gap_in, part_at, more_of, key_of}
use Rattle.keep_syntax.specs.Reading.{name_of, named_in, Item, entry_of, after_by, item_by, entries_by, bracket_by}
use Rattle.keep_syntax.specs.Reading.{scalar_of, value_of, close_byte}
use Rattle.keep_syntax_store.specs.Flat.{Flat, with_token, with_comma, ChangesValue}
pub use Rattle.keep_syntax_store.specs.Flat.{flat}

-- ---- what parts add

-- the leaves of parts, and their statements, key parts and values
pub record Taken : Type 0 where
  pub leaves : List Written
  pub statements : List Statement
  pub keys : List KeyPart
  pub values : List ValueInfo

abbrev pub only : List Written → Taken
only ws = record { leaves = ws; statements = []; keys = []; values = [] }

-- one after the other
abbrev pub both : Taken → Taken → Taken
both a b =
    record {
      leaves = a.leaves ++ b.leaves;
      statements = a.statements ++ b.statements;
      keys = a.keys ++ b.keys;
      values = a.values ++ b.values;
    }

abbrev pub kinds : List Written → List Leaf
kinds ws = map (λ w. w.leaf) ws

-- where leaves begin, the first at this place
abbrev pub starts : ℕ → List Written → List ℕ
starts at [] = []
starts at (w ∷ ws) = at ∷ starts (at + length w.text) ws

unfoldable pub add_at : Flat → ℕ → Taken → Flat
add_at f at t = record {
  kinds = f.kinds ++ kinds t.leaves;
  starts = f.starts ++ starts at t.leaves;
  statements = f.statements ++ t.statements;
  keys = f.keys ++ t.keys;
  values = f.values ++ t.values;
}

-- What is stored grew by parts that are between these places, each leaf at the start of a character.
pub record Grows (text : List ℕ) (old new : Flat) (at end : ℕ) (t : Taken) : Type 0 where
  pub place : end ≡ at + width t.leaves
  pub stored : new ≡ add_at old at t
  pub bounds : AllByRecursion (IsCharBoundary text) (starts at t.leaves)

-- ---- reading

-- an error is what reading gives, unless memory ran out
abbrev pub Fails : {A : Type 0} → List ℕ → ReadFault → Result A Fault → Type 0
Fails text faults.Memory read = ⊤
Fails text (faults.Syntax at what) read = read ≡ Err Bad
Fails text (faults.TooDeep at) read = (at ≤ length text) × (read ≡ Err (Deep (drop at text)))
Fails text _ read = ⊥

-- A part was read from a place on, of so many bytes at least, and what it adds is stored.
pub record PartIs {A : Type 0} (text : List ℕ) (at least : ℕ) (read : Read A) (taken : A → Taken) (old new : Flat)
    (end : ℕ) : Type 0 where
  pub part : A
  pub bound : IsCharBoundary text end
  pub forward : at + least ≤ end
  pub is_read : read ≡ Ok (part, drop end text)
  pub grows : Grows text old new at end (taken part)

abbrev pub PartRead : {A : Type 0} → List ℕ → ℕ → ℕ → Read A → (A → Taken) → Flat → Flat → Result ℕ ReadFault → Type 0
PartRead text at least read taken old new (Ok end) = PartIs text at least read taken old new end
PartRead text at least read taken old new (Err e) = Fails text e read

-- ---- signs

-- a fault of the grammar
abbrev pub IsSyntax : ReadFault → Type 0
IsSyntax (faults.Syntax at what) = ⊤
IsSyntax _ = ⊥

-- a token of so many bytes is stored
pub record PunctuationIs (text : List ℕ) (at len : ℕ) (leaf : Leaf) (old new : Flat) (end : ℕ) : Type 0 where
  pub end_is : end ≡ at + len
  pub bound : IsCharBoundary text end
  pub start : IsCharBoundary text at
  pub stored : new ≡ with_token leaf at old

abbrev pub PunctuationRead : List ℕ → ℕ → ℕ → Leaf → Flat → Flat → Result ℕ ReadFault → Type 0
PunctuationRead text at len leaf old new (Ok end) = PunctuationIs text at len leaf old new end
PunctuationRead text at len leaf old new (Err e) = e ≡ faults.Memory

-- ---- gaps

abbrev pub SpaceRead : List ℕ → ℕ → Flat → Flat → Result ℕ ReadFault → Type 0
SpaceRead text at old new r = PartRead text at 0 (Ok (space_at (drop at text))) only old new r

abbrev pub BlankRead : List ℕ → ℕ → Flat → Flat → Result ℕ ReadFault → Type 0
BlankRead text at old new r = PartRead text at 0 (Ok (blank_at (drop at text))) only old new r

abbrev pub GapRead : Profile → Brackets → List ℕ → ℕ → Flat → Flat → Result ℕ ReadFault → Type 0
GapRead profile b text at old new r = PartRead text at 0 (Ok (gap_in profile b (drop at text))) only old new r

-- ---- keys

abbrev pub part_taken : ℕ → Written → Taken
part_taken at w = record { leaves = w ∷ []; statements = []; keys = numbered.part_at at w ∷ []; values = [] }

abbrev pub KeyPartRead : Profile → List ℕ → ℕ → Flat → Flat → Result ℕ ReadFault → Type 0
KeyPartRead profile text at old new r = PartRead text at 1 (part_at profile (drop at text)) (part_taken at) old new r

-- further parts, and the gap after them
abbrev pub further_taken : ℕ → List Further × Gap → Taken
further_taken at m =
    record { leaves = flat_map further_leaves m.0 ++ m.1; statements = []; keys = further_parts at m.0; values = [] }

abbrev pub FurtherRead : Profile → List ℕ → ℕ → Flat → Flat → Result ℕ ReadFault → Type 0
FurtherRead profile text at old new r =
    PartRead text at 0 (more_of profile [] (drop at text)) (further_taken at) old new r

-- a key, and the gap after it
abbrev pub key_taken : ℕ → Key × Gap → Taken
key_taken at k = record { leaves = key_leaves k.0 ++ k.1; statements = []; keys = key_parts at k.0; values = [] }

abbrev pub KeyRead : Profile → List ℕ → ℕ → Flat → Flat → Result ℕ ReadFault → Type 0
KeyRead profile text at old new r = PartRead text at 1 (key_of profile (drop at text)) (key_taken at) old new r

abbrev pub name_taken : ℕ → Name → Taken
name_taken at n = record { leaves = name_leaves n; statements = []; keys = key_parts at n.key; values = [] }

abbrev pub NameRead : Profile → List ℕ → ℕ → Flat → Flat → Result ℕ ReadFault → Type 0
NameRead profile text at old new r = PartRead text at 1 (name_of profile (drop at text)) (name_taken at) old new r

-- ---- values

abbrev pub open_leaf : Brackets → Leaf
open_leaf brackets.Array = leaf.ArrayOpen
open_leaf brackets.Inline = leaf.InlineOpen

abbrev pub close_leaf : Brackets → Leaf
close_leaf brackets.Array = leaf.ArrayClose
close_leaf brackets.Inline = leaf.InlineClose

abbrev pub owner_in : Brackets → ℕ → Owner
owner_in brackets.Array number = owner.Item number
owner_in brackets.Inline number = owner.Inline number

-- a value that begins at a place, in entries that begin at p, with so many key parts of its own
abbrev pub value_taken : Start → ℕ → ℕ → Value → Taken
value_taken p at keys v =
    record {
      leaves = value_leaves v;
      statements = [];
      keys = entries_parts (nested_start at v.body) v.nested;
      values = value_values p at keys v;
    }

abbrev pub ScalarRead : Profile → List ℕ → ℕ → ℕ → Start → Flat → Flat → Result ℕ ReadFault → Type 0
ScalarRead profile text at keys p old new r =
    PartRead text at 1 (scalar_of (drop at text) (scalar_at profile (drop at text))) (value_taken p at keys) old new r

abbrev pub ValueRead : Profile → ℕ → List ℕ → ℕ → ℕ → Start → Flat → Flat → Result ℕ ReadFault → Type 0
ValueRead profile depth_left text at keys p old new r =
    PartRead text at 1 (value_of profile depth_left (drop at text)) (value_taken p at keys) old new r

-- an array or an inline table, where so many more brackets may be opened
abbrev pub bracket_of : Profile → ℕ → Brackets → List ℕ → Read Value
bracket_of profile zero b text = Err (Deep text)
bracket_of profile (suc depth_left) b text = bracket_by profile (value_of profile depth_left) b text

abbrev pub BracketRead : Brackets → Profile → ℕ → List ℕ → ℕ → ℕ → Start → Flat → Flat → Result ℕ ReadFault → Type 0
BracketRead b profile depth_left text at keys p old new r =
    PartRead text at 1 (bracket_of profile depth_left b (drop at text)) (value_taken p at keys) old new r

abbrev pub named_taken : ℕ → Option Name → Taken
named_taken at n = record { leaves = named_leaves n; statements = []; keys = named_parts at n; values = [] }

abbrev pub NamedRead : Profile → Brackets → List ℕ → ℕ → Flat → Flat → Result ℕ ReadFault → Type 0
NamedRead profile b text at old new r =
    PartRead text at 0 (named_in profile b (drop at text)) (named_taken at) old new r

-- what follows a value is stored, and the value with this number gets its comma
abbrev pub AfterStored : List ℕ → ℕ → ℕ → Flat → Flat → ℕ → Gap → Option Gap → Type 0
AfterStored text at number old new end after None = Grows text old new at end (only after)
AfterStored text at number old new end after (Some next_gap) =
    (mid : Flat) × (changed : Flat)
    × Grows text old mid at (at + width after + 1) (only (after ++ token leaf.Comma (0x2C ∷ [])))
    × ChangesValue (with_comma (at + width after)) number mid changed
    × Grows text changed new (at + width after + 1) end (only next_gap)

pub record AfterIs (profile : Profile) (b : Brackets) (text : List ℕ) (at number : ℕ) (old new : Flat) (end : ℕ)
    (comma : Option ℕ) : Type 0 where
  pub after : Gap
  pub comma_gap : Option Gap
  pub bound : IsCharBoundary text end
  pub forward : at ≤ end
  pub comma_is : comma ≡ comma_place (at + width after) comma_gap
  pub closed : comma ≡ None → slice_index text end ≡ close_byte b
  pub is_read : (name : Option Name) (v : Value)
      → after_by profile b name v (gap_in profile b (drop at text))
      ≡ Ok (record { name = name; value = v; after = after; comma = comma_gap }, drop end text)
  pub stored : AfterStored text at number old new end after comma_gap

abbrev pub AfterRead : Profile → Brackets → List ℕ → ℕ → ℕ → Flat → Flat → Result (ℕ × Option ℕ) ReadFault → Type 0
AfterRead profile b text at number old new (Ok r) = AfterIs profile b text at number old new r.0 r.1
AfterRead profile b text at number old new (Err e) =
    (name : Option Name) (v : Value) → Fails text e (after_by profile b name v (gap_in profile b (drop at text)))

abbrev pub entries_taken : Start → Entries → Taken
entries_taken p es =
    record { leaves = entries_leaves es; statements = []; keys = entries_parts p.at es; values = entries_values p es }

pub record EntriesAre (b : Brackets) (profile : Profile) (depth_left : ℕ) (text : List ℕ) (p : Start) (old new : Flat)
    (end : ℕ) : Type 0 where
  pub read : PartIs text p.at 0 (entries_by profile b (value_of profile depth_left) none (drop p.at text))
      (entries_taken p) old new end
  pub closed : slice_index text end ≡ close_byte b

abbrev pub EntriesRead : Brackets → Profile → ℕ → List ℕ → Start → Flat → Flat → Result ℕ ReadFault → Type 0
EntriesRead b profile depth_left text p old new (Ok end) = EntriesAre b profile depth_left text p old new end
EntriesRead b profile depth_left text p old new (Err e) =
    Fails text e (entries_by profile b (value_of profile depth_left) none (drop p.at text))

abbrev pub item_taken : Start → Item → Taken
item_taken p i = entries_taken p (entry_of i none)

pub record ItemIs (b : Brackets) (profile : Profile) (depth_left : ℕ) (text : List ℕ) (p : Start) (old new : Flat)
    (end : ℕ)
    (comma : Option ℕ) : Type 0 where
  pub read : PartIs text p.at 1 (item_by profile b (value_of profile depth_left) (drop p.at text))
      (item_taken p) old new end
  pub comma_is : comma
      ≡ comma_place
      (comma_start p.at read.part.name read.part.value.body read.part.value.nested read.part.after) read.part.comma
  pub closed : comma ≡ None → slice_index text end ≡ close_byte b

abbrev pub ItemRead : Brackets → Profile → ℕ → List ℕ → Start → Flat → Flat → Result (ℕ × Option ℕ) ReadFault → Type 0
ItemRead b profile depth_left text p old new (Ok r) = ItemIs b profile depth_left text p old new r.0 r.1
ItemRead b profile depth_left text p old new (Err e) =
    Fails text e (item_by profile b (value_of profile depth_left) (drop p.at text))
