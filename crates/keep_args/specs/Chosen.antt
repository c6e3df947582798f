-- What the rows that `clap` answers ask for.
use Rattle.std.specs.Prelude.{◌≡◌, [], List, length, map, take, ℕ, Option, Some, None, unwrap_or, string_bytes}
use Rattle.clap.specs.Walk.{Row as Found, first_of}
use Rattle.keep_args.specs.App.{word_ids}
use Rattle.keep_args.specs.Table.{Row, first_row, row_of, table}
use Rattle.keep_args.specs.Wanted.{Wanted, row_named}
use Rattle.keep_args.specs.declared.fault.ChoiceFault.{ChoiceFault}
use Rattle.keep_args.specs.declared.fault.ChoiceFault.TheVariants.{Words}
use Rattle.keep_args.specs.declared.words.Chosen.{Chosen}

-- the word of an argument
abbrev pub word_in : List ℕ → List Found → List ℕ
word_in id found = unwrap_or (first_of id found) []

-- the words of a subcommand
abbrev pub words_in : Row → List Found → List (List ℕ)
words_in row found = map (λ id. word_in id found) (take (length row.words) word_ids)

-- a subcommand with the words that were found
abbrev pub wanted_with : List Found → Row → Wanted
wanted_with found row = record { row = row; words = words_in row found }

-- the row of a name; the first where none has it
abbrev pub row_or_first : List ℕ → Row
row_or_first name = unwrap_or (row_named name table) first_row

abbrev pub read_rows : Option (List ℕ × List Found) → Wanted
read_rows None = wanted_with [] first_row
read_rows (Some p) = wanted_with p.1 (row_or_first p.0)

-- ---- what the program keeps of them

abbrev pub wanted_of_chosen : Chosen → Wanted
wanted_of_chosen chosen = record { row = row_of chosen.row; words = map string_bytes chosen.words.items }

-- the words ask for this
abbrev pub IsChosen : Option Wanted → Chosen → Type 0
IsChosen wanted chosen = wanted ≡ Some (wanted_of_chosen chosen)

-- the words ask for nothing
abbrev pub IsUnchosen : Option Wanted → ChoiceFault → Type 0
IsUnchosen wanted (Words error) = wanted ≡ None
IsUnchosen wanted _ = ⊥
