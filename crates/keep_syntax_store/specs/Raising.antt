-- Which packed entries can be moved on in place: those whose places fit into their words then.
use Rattle.std.specs.Prelude.{ℕ, ◌<◌, ◌^◌}
use Rattle.keep_syntax_store.specs.declared.keys.PackedKeyPart.{PackedKeyPart}
use Rattle.keep_syntax_store.specs.declared.statements.PackedStatement.{PackedStatement}
use Rattle.keep_syntax_store.specs.declared.values.PackedValue.{PackedValue}
use Rattle.keep_syntax_store.specs.Blocks.{raise_place}

pub record CanRaiseKey (by : ℕ) (k : PackedKeyPart) : Type 0 where
  pub start : raise_place by k.start < 2 ^ 32

pub record CanRaiseStatement (by : ℕ) (s : PackedStatement) : Type 0 where
  pub line_start : raise_place by s.line_start < 2 ^ 32
  pub end : raise_place by s.end < 2 ^ 32

-- what becomes known later has a word in which every place fits
pub record CanRaiseValue (by : ℕ) (v : PackedValue) : Type 0 where
  pub anchor : raise_place by v.anchor < 2 ^ 32
