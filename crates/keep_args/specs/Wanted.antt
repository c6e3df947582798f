-- What the program's words ask for.
use Rattle.std.specs.Prelude.{◌≡◌, ◌==◌, ◌||◌, List, [], ◌∷◌, ℕ, Option, Some, None, if◌then◌else◌, Bool}
use Rattle.std.specs.Prelude.{length, find, option_and_then, option_map, Contains}
use Rattle.std.specs.Str.{bytes_eq}
use Rattle.clap.specs.Lexer.{is_long_word, is_short_word}
use Rattle.keep_args.specs.declared.subcommand.Ask.{Ask}
use Rattle.keep_args.specs.declared.subcommand.Ask.TheVariants as ask
use Rattle.keep_args.specs.declared.subcommand.Op.{Op}
use Rattle.keep_args.specs.Table.{Row, table}

-- a subcommand and the texts of its words
pub record Wanted : Type 0 where
  pub row : Row
  pub words : List (List ℕ)

-- a row of the table, with as many words as it has
pub record IsWhole (wanted : Wanted) : Type 0 where
  pub row : Contains table wanted.row
  pub many : length wanted.words ≡ length wanted.row.words

-- the subcommand of a name
abbrev pub row_named : List ℕ → List Row → Option Row
row_named name rows = find (λ row. bytes_eq row.name name) rows

-- the operation of an edit, where one is asked
abbrev pub op_in : Ask → Option Op
op_in (ask.Edit op) = Some op
op_in _ = None

-- the operation of the edit that the subcommand of this name makes
abbrev pub op_named : List ℕ → Option Op
op_named name = option_and_then (λ row. op_in row.ask) (row_named name table)

-- the word is `--`
abbrev pub is_dashes : List ℕ → Bool
is_dashes word = bytes_eq word (45 ∷ 45 ∷ [])

-- the word is an option, as `-x` or `--name`; `-` and `--` are none
abbrev pub is_option : List ℕ → Bool
is_option word = is_long_word word || is_short_word word

-- The words without the first `--`. Before it there is no option; after it any word may begin with a hyphen.
abbrev pub taken : List (List ℕ) → Option (List (List ℕ))
taken [] = Some []
taken (word ∷ words) =
    if is_dashes word then Some words
    else (if is_option word then None else option_map (λ rest. word ∷ rest) (taken words))

-- a subcommand takes as many words as it has
abbrev pub with_words : Row → List (List ℕ) → Option Wanted
with_words row words = if length words == length row.words then Some (record { row = row; words = words }) else None

abbrev pub wanted_by : List (List ℕ) → Row → Option Wanted
wanted_by words row = option_and_then (with_words row) (taken words)

abbrev pub wanted_in : List Row → List (List ℕ) → Option Wanted
wanted_in rows (program ∷ name ∷ words) = option_and_then (wanted_by words) (row_named name rows)
wanted_in rows _ = None

-- the program's name, a subcommand and its words
abbrev pub wanted_of : List (List ℕ) → Option Wanted
wanted_of words = wanted_in table words
