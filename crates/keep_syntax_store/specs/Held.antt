-- Numbers and places that machine words still hold when they are moved from after one count to after another.
use Rattle.std.specs.Prelude.{ℕ, ◌+◌, ◌-◌, ◌<◌, ◌≤◌, ◌^◌, Option, Some, None, ⊤}
use Rattle.keep_types.specs.declared.syntax.Span.{Span}
use Rattle.keep_types.specs.declared.syntax.KeyPart.{KeyPart}
use Rattle.keep_types.specs.declared.syntax.Owner.{Owner}
use Rattle.keep_types.specs.declared.syntax.Owner.TheVariants as owner
use Rattle.keep_types.specs.declared.syntax.Statement.{Statement}
use Rattle.keep_types.specs.declared.syntax.ValueInfo.{ValueInfo}
use Rattle.keep_syntax_store.specs.Counts.{Count}

-- a number after `old` that a machine word holds after `new`
pub record IsHeld (old new n : ℕ) : Type 0 where
  pub low : old ≤ n
  pub fits : n - old + new < 2 ^ 64

abbrev pub IsHeldThere : ℕ → ℕ → Option ℕ → Type 0
IsHeldThere old new None = ⊤
IsHeldThere old new (Some m) = IsHeld old new m

pub record IsHeldSpan (old new : ℕ) (s : Span) : Type 0 where
  pub start : IsHeld old new s.start
  pub end : IsHeld old new s.end

abbrev pub IsHeldOwner : Count → Count → Owner → Type 0
IsHeldOwner a b (owner.Line n) = IsHeld a.statements b.statements n
IsHeldOwner a b (owner.Inline n) = IsHeld a.values b.values n
IsHeldOwner a b (owner.Item n) = IsHeld a.values b.values n

abbrev pub IsHeldKey : Count → Count → KeyPart → Type 0
IsHeldKey a b k = IsHeldSpan a.at b.at k.span

pub record IsHeldStatement (a b : Count) (s : Statement) : Type 0 where
  pub span : IsHeldSpan a.at b.at s.span
  pub line : IsHeldSpan a.at b.at s.line
  pub first_key : IsHeld a.parts b.parts s.first_key
  pub value : IsHeldThere a.values b.values s.value

pub record IsHeldValue (a b : Count) (v : ValueInfo) : Type 0 where
  pub span : IsHeldSpan a.at b.at v.span
  pub whole : IsHeldSpan a.at b.at v.whole
  pub owner : IsHeldOwner a b v.owner
  pub first_key : IsHeld a.parts b.parts v.first_key
  pub comma_before : IsHeldThere a.at b.at v.comma_before
  pub comma_after : IsHeldThere a.at b.at v.comma_after
