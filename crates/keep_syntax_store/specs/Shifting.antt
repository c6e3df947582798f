-- Packed records with their numbers moved in place, and which of them can be moved.
use Rattle.std.specs.Prelude.{◌≡◌, ℕ, ◌+◌, ◌-◌, ◌≤◌, ◌%◌, ◌^◌, min, true, if◌then◌else◌}
use Rattle.keep_syntax_store.specs.declared.moves.Counts.{Counts}
use Rattle.keep_syntax_store.specs.declared.shift.Shifts.{Shifts}
use Rattle.keep_syntax_store.specs.declared.statements.PackedStatement.{PackedStatement}
use Rattle.keep_syntax_store.specs.declared.keys.PackedKeyPart.{PackedKeyPart}
use Rattle.keep_syntax_store.specs.declared.values.Within.{Within}
use Rattle.keep_syntax_store.specs.declared.values.Within.TheVariants as within
use Rattle.keep_syntax_store.specs.declared.values.PackedValue.{PackedValue}
use Rattle.keep_syntax_store.specs.Blocks.{step}

abbrev pub last_u32 : ℕ
last_u32 = 4294967295

abbrev pub last_usize : ℕ
last_usize = 18446744073709551615

-- a number moved from after one to after another, in a word whose greatest number is `last`
abbrev pub shifted_to : ℕ → ℕ → ℕ → ℕ → ℕ
shifted_to last old new n = min (n - old + new) last

-- it fits there, and can be moved back
pub record FitsMoved (last old new n : ℕ) : Type 0 where
  pub low : old ≤ n
  pub fits : n - old + new ≤ last
  pub small : n ≤ last

-- the greatest number of 31 bits
abbrev pub last_small : ℕ
last_small = 2147483647

-- a text of `len` bytes is shorter than 4 GiB, also once what is after a place is moved
pub record IsShort (len old new : ℕ) : Type 0 where
  pub now : len ≤ last_u32
  pub moved : len - old + new ≤ last_u32

-- from one count to the other numbers grow by no more than the greatest of 31 bits
pub record GrowLittle (a b : Counts) : Type 0 where
  pub statements : b.statements - a.statements ≤ last_small
  pub keys : b.keys - a.keys ≤ last_small
  pub values : b.values - a.values ≤ last_small

-- what is added to a number to move it, in a word of 32 bits
abbrev pub step_u32 : ℕ → ℕ → ℕ
step_u32 old new = step old new % 2 ^ 32

-- and to each number of what comes after a count
abbrev pub shifts_between : Counts → Counts → Shifts
shifts_between a b = record {
  at = step_u32 a.at b.at;
  at_usize = step a.at b.at;
  statements = step_u32 a.statements b.statements;
  keys = step_u32 a.keys b.keys;
  values = step_u32 a.values b.values;
}

-- ---- key parts

abbrev pub shifted_key : Counts → Counts → PackedKeyPart → PackedKeyPart
shifted_key a b k = record k { start = shifted_to last_u32 a.at b.at k.start }

pub record CanShiftKey (a b : Counts) (k : PackedKeyPart) : Type 0 where
  pub start : FitsMoved last_u32 a.at b.at k.start

-- ---- statements

abbrev pub shifted_statement : Counts → Counts → PackedStatement → PackedStatement
shifted_statement a b s = record s {
  line_start = shifted_to last_u32 a.at b.at s.line_start;
  end = shifted_to last_u32 a.at b.at s.end;
  first_key = shifted_to last_u32 a.keys b.keys s.first_key;
  value = if s.has_value then shifted_to last_u32 a.values b.values s.value else s.value;
}

pub record CanShiftStatement (a b : Counts) (s : PackedStatement) : Type 0 where
  pub line_start : FitsMoved last_u32 a.at b.at s.line_start
  pub end : FitsMoved last_u32 a.at b.at s.end
  pub first_key : FitsMoved last_u32 a.keys b.keys s.first_key
  pub value : s.has_value ≡ true → FitsMoved last_u32 a.values b.values s.value

-- its numbers have 31 bits
pub record IsSmallStatement (at : ℕ) (s : PackedStatement) : Type 0 where
  pub first_key : s.first_key ≤ last_small
  pub value : s.value ≤ last_small

-- ---- values

-- how many come before of what a value may be in
abbrev pub owners_of : Within → Counts → ℕ
owners_of within.Line c = c.statements
owners_of within.Inline c = c.values
owners_of within.Item c = c.values

-- what is added to the number of what a value is in
abbrev pub owner_shift : Within → Shifts → ℕ
owner_shift within.Line by = by.statements
owner_shift within.Inline by = by.values
owner_shift within.Item by = by.values

abbrev pub shifted_value : Counts → Counts → PackedValue → PackedValue
shifted_value a b v = record v {
  anchor = shifted_to last_u32 a.at b.at v.anchor;
  owner = shifted_to last_u32 (owners_of v.within a) (owners_of v.within b) v.owner;
  first_key = shifted_to last_u32 a.keys b.keys v.first_key;
  end = shifted_to last_usize a.at b.at v.end;
  after = if v.has_after then shifted_to last_usize a.at b.at v.after else v.after;
}

pub record CanShiftValue (a b : Counts) (v : PackedValue) : Type 0 where
  pub anchor : FitsMoved last_u32 a.at b.at v.anchor
  pub owner : FitsMoved last_u32 (owners_of v.within a) (owners_of v.within b) v.owner
  pub first_key : FitsMoved last_u32 a.keys b.keys v.first_key
  pub end : FitsMoved last_usize a.at b.at v.end
  pub after : v.has_after ≡ true → FitsMoved last_usize a.at b.at v.after

-- its numbers have 31 bits, and it is stored with no place before this one
pub record IsSmallValue (at : ℕ) (v : PackedValue) : Type 0 where
  pub anchor : at ≤ v.anchor
  pub owner : v.owner ≤ last_small
  pub first_key : v.first_key ≤ last_small
