-- What is packed into few bytes: that whose numbers fit.
use Rattle.std.specs.Prelude.{◌≡◌, ℕ, ◌+◌, ◌<◌, ◌≤◌, ◌^◌, max}
use Rattle.std.specs.Option.{unwrap_or}
use Rattle.keep_types.specs.declared.syntax.Owner.{Owner}
use Rattle.keep_types.specs.declared.syntax.Owner.TheVariants as owner
use Rattle.keep_types.specs.declared.syntax.Statement.{Statement}
use Rattle.keep_types.specs.declared.syntax.KeyPart.{KeyPart}
use Rattle.keep_types.specs.declared.syntax.ValueInfo.{ValueInfo}

-- a key part of less than 64 KiB, that starts below 4 GiB
pub record FitsKey (part : KeyPart) : Type 0 where
  pub start : part.span.start < 2 ^ 32
  pub order : part.span.start ≤ part.span.end
  pub len : part.span.end < part.span.start + 2 ^ 16

-- a statement that is in its line, with less than 64 KiB of that before it and after it
pub record FitsStatement (s : Statement) : Type 0 where
  pub places : max s.line.start s.span.end < 2 ^ 32
  pub numbers : max s.first_key (unwrap_or s.value 0) < 2 ^ 32
  pub keys : s.keys < 2 ^ 16
  pub starts : s.line.start ≤ s.span.start
  pub before : s.span.start < s.line.start + 2 ^ 16
  pub ends : s.span.end ≤ s.line.end
  pub after : s.line.end < s.span.end + 2 ^ 16

-- the number of what a value is in
abbrev pub owner_number : Owner → ℕ
owner_number (owner.Line number) = number
owner_number (owner.Inline number) = number
owner_number (owner.Item number) = number

-- where the comma before it is, or else where its keyval starts
abbrev pub anchor : ValueInfo → ℕ
anchor v = unwrap_or v.comma_before v.whole.start

-- from one place to another it is less than 64 KiB, forward
pub record IsNear (from to : ℕ) : Type 0 where
  pub forward : from ≤ to
  pub near : to < from + 2 ^ 16

-- a value that ends with its keyval, and whose numbers fit
pub record FitsValue (v : ValueInfo) : Type 0 where
  pub one_end : v.span.end ≡ v.whole.end
  pub place : anchor v < 2 ^ 32
  pub gap : IsNear (anchor v) v.whole.start
  pub lead : IsNear v.whole.start v.span.start
  pub owner : owner_number v.owner < 2 ^ 32
  pub first_key : v.first_key < 2 ^ 32
  pub keys : v.keys < 2 ^ 16
