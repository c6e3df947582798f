-- What replacing lines in place keeps, and what putting them back gives.
use Rattle.std.specs.Prelude.{◌≡◌}
use Rattle.keep_syntax.specs.declared.syntax.Syntax.{Syntax}
use Rattle.keep_syntax.specs.declared.syntax.rereading.Replaced.{Replaced}
use Rattle.keep_syntax_store.specs.Flat.{flat}
use Rattle.keep_syntax_store.specs.InPlace.{UndoesParts}

-- Both store the same tokens, statements, key parts, values, line starts and length of the text. How these are packed
-- may differ.
pub record IsSame (a b : Syntax) : Type 0 where
  pub stored : flat a.parts ≡ flat b.parts
  pub lines : a.lines ≡ b.lines
  pub len : a.len ≡ b.len

-- Putting it back in the second gives what is stored in the first.
pub record Undoes (r : Replaced) (before after : Syntax) : Type 0 where
  pub parts : UndoesParts r.parts before.parts after.parts
  pub lines : r.lines ≡ before.lines
  pub len : r.len ≡ before.len

abbrev pub CanUndo : Replaced → Syntax → Type 0
CanUndo r after = (before : Syntax) × Undoes r before after
