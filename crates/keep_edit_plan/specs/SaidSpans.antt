-- Lines that say something, by their places.
use Rattle.std.specs.Prelude.{◌≡◌, ◌-◌, ◌<◌, ℕ, List, []}
use Rattle.keep_types.specs.declared.syntax.Span.{Span}
use Rattle.keep_edit_spec.specs.SaidLines.{SaysBefore}
use Rattle.keep_edit_spec.specs.TextChanges.{IsBeside, TextChange, change_at}

-- The span is that of such a line up to this byte, and of the line feed before it.
pub record IsSaidSpan (bytes : List ℕ) (at : ℕ) (line : Span) : Type 0 where
  pub says : SaysBefore bytes at
  pub starts : line.start ≡ says.from
  pub ends : line.end ≡ at

-- The change takes no byte of the span, and writes nothing between them, nor right after them where it takes nothing.
pub record Leaves (bytes : Span) (c : TextChange) : Type 0 where
  pub beside : IsBeside c (change_at bytes.start (bytes.end - bytes.start) [])
  pub after : c.at ≡ bytes.end → 0 < c.size
