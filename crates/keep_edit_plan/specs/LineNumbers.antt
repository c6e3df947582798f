-- The numbers of a keyval's line that is put in at the end of a body, or after another keyval's line.
use Rattle.std.specs.Prelude.{◌≡◌, ℕ, suc, ◌<◌, List, [], ◌∷◌, length, take, slice_get, Some, None}
use Rattle.std.specs.List.{filter_map}
use Rattle.keep_types.specs.declared.syntax.Owner.TheVariants as owner
use Rattle.keep_types.specs.declared.syntax.Statement.{Statement}
use Rattle.keep_types.specs.declared.syntax.ValueInfo.{ValueInfo}
use Rattle.keep_syntax.specs.Numbered as syntax
use Rattle.keep_syntax.specs.Tree.{Document}
use Rattle.keep_path.specs.Path.{Part}
use Rattle.keep_index_store.specs.declared.renumbering.LineNumbers.{LineNumbers}
use Rattle.keep_index_store.specs.Renumbering.{numbers_of}
use Rattle.keep_meaning.specs.Counts.{line_statement, statements_in}
use Rattle.keep_meaning.specs.LinesMore.{numbers_after}
use Rattle.keep_meaning.specs.Meaning.{lines}
use Rattle.keep_edit_spec.specs.Edits.{end_of}

-- the number of the next key part and of the next value, where these statements are left, of so many in all
abbrev pub next_key : ℕ → List Statement → ℕ
next_key all [] = all
next_key all (s ∷ ss) = s.first_key

abbrev pub next_value : ℕ → List Statement → ℕ
next_value all [] = all
next_value all (s ∷ ss) = elim s.value [ Some v ↦ v | None ↦ next_value all ss ]

-- The body at a path ends before this line, and a keyval that is put in there has these numbers.
pub record AreNumbersAfter (a : List Part) (s : Document) (numbers : LineNumbers) : Type 0 where
  pub line : ℕ
  pub ends : end_of s a ≡ Some line
  pub counted : numbers_of numbers ≡ numbers_after (filter_map line_statement (take line (lines s)))

-- The keyval with this value number is on line number `line`.
pub record IsOnLine (s : Document) (keyval line : ℕ) : Type 0 where
  pub own : ValueInfo
  pub here : slice_get (syntax.values s) keyval ≡ Some own
  pub statement : ℕ
  pub owned : own.owner ≡ owner.Line statement
  pub within : statement < length (syntax.statements s)
  pub counted : filter_map line_statement (take (suc line) (lines s)) ≡ take (suc statement) (statements_in s)

-- A keyval that is put in after that line has these numbers.
abbrev pub AreNumbersPast : ℕ → Document → LineNumbers → Type 0
AreNumbersPast line s numbers =
    numbers_of numbers ≡ numbers_after (filter_map line_statement (take (suc line) (lines s)))
