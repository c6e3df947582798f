-- What is stored of the lines after a line: it comes after all that is counted before them, and lies in the text.
use Rattle.std.specs.Prelude.{ℕ, ◌≤◌, drop, Option, Some, None, ⊤}
use Rattle.std.specs.List.{AllByRecursion}
use Rattle.keep_types.specs.declared.syntax.Span.{Span}
use Rattle.keep_types.specs.declared.syntax.KeyPart.{KeyPart}
use Rattle.keep_types.specs.declared.syntax.Owner.{Owner}
use Rattle.keep_types.specs.declared.syntax.Owner.TheVariants as owner
use Rattle.keep_types.specs.declared.syntax.Statement.{Statement}
use Rattle.keep_types.specs.declared.syntax.ValueInfo.{ValueInfo}
use Rattle.keep_syntax_store.specs.declared.moves.Counts.{Counts}
use Rattle.keep_syntax_store.specs.Counts.{Count}
use Rattle.keep_syntax_store.specs.Flat.{Flat}
use Rattle.keep_syntax_store.specs.Rereading.{count_of}

-- ---- places in the text, from a place on

pub record IsBetween (from to n : ℕ) : Type 0 where
  pub low : from ≤ n
  pub high : n ≤ to

pub record IsBetweenSpan (from to : ℕ) (s : Span) : Type 0 where
  pub start : IsBetween from to s.start
  pub end : IsBetween from to s.end

abbrev pub IsBetweenThere : ℕ → ℕ → Option ℕ → Type 0
IsBetweenThere from to None = ⊤
IsBetweenThere from to (Some n) = IsBetween from to n

-- ---- numbers from a number on

abbrev pub IsFromThere : ℕ → Option ℕ → Type 0
IsFromThere from None = ⊤
IsFromThere from (Some n) = from ≤ n

abbrev pub IsFromOwner : Count → Owner → Type 0
IsFromOwner c (owner.Line n) = c.statements ≤ n
IsFromOwner c (owner.Inline n) = c.values ≤ n
IsFromOwner c (owner.Item n) = c.values ≤ n

-- ---- entries after a count, in a text of `len` bytes

pub record IsAfterKey (c : Count) (len : ℕ) (k : KeyPart) : Type 0 where
  pub span : IsBetweenSpan c.at len k.span

pub record IsAfterStatement (c : Count) (len : ℕ) (s : Statement) : Type 0 where
  pub span : IsBetweenSpan c.at len s.span
  pub line : IsBetweenSpan c.at len s.line
  pub first_key : c.parts ≤ s.first_key
  pub value : IsFromThere c.values s.value

pub record IsAfterValue (c : Count) (len : ℕ) (v : ValueInfo) : Type 0 where
  pub span : IsBetweenSpan c.at len v.span
  pub whole : IsBetweenSpan c.at len v.whole
  pub owner : IsFromOwner c v.owner
  pub first_key : c.parts ≤ v.first_key
  pub comma_before : IsBetweenThere c.at len v.comma_before
  pub comma_after : IsBetweenThere c.at len v.comma_after

-- all entries from a count on
pub record AreAfter (c : Counts) (len : ℕ) (f : Flat) : Type 0 where
  pub statements : AllByRecursion (IsAfterStatement (count_of c) len) (drop c.statements f.statements)
  pub keys : AllByRecursion (IsAfterKey (count_of c) len) (drop c.keys f.keys)
  pub values : AllByRecursion (IsAfterValue (count_of c) len) (drop c.values f.values)
