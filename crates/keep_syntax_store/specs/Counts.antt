-- A span of places, and what comes before a place.
use Rattle.std.specs.Prelude.{ℕ}
use Rattle.keep_types.specs.declared.syntax.Span.{Span}

abbrev pub span : ℕ → ℕ → Span
span from to = record { start = from; end = to }

-- what comes before a line: offset, statements, key parts and values
pub record Count : Type 0 where
  pub at : ℕ
  pub statements : ℕ
  pub parts : ℕ
  pub values : ℕ
