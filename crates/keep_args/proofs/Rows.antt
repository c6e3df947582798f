-- What the getters read, by rows: a subcommand with its rows, and the word of an argument.
--
-- Theorems: `rows_met`: the name and the rows, each read alone, are those of one subcommand; `word_met`: the first
-- value of an argument, or an empty one, is its word in the rows.
use Rattle.std.proofs.Common.{◌≡◌, ◌∙◌, List, [], Option, Some, None, option_map, unwrap_or, sym, ap, ap₂}
use Rattle.std.specs.Prelude.{Box}
use Rattle.clap.specs.Walk.{Row, Text, rows_of}
use Rattle.clap.specs.Matches.{first_value, found_of, subcommand_name_of}
use Rattle.clap.specs.Simple.{subcommand_rows, subcommand_rows_of}
use Rattle.clap.specs.declared.parser.matches.ArgMatches.{ArgMatches}
use Rattle.clap.specs.declared.parser.matches.ArgMatches.TheViews.{out-ArgMatches, out-SubCommand}
use Rattle.clap.specs.declared.parser.matches.SubCommand.{SubCommand}
use Rattle.clap.specs.declared.parser.matches.Found.{Found}
use Rattle.std.specs.Box.{box_value}
use Rattle.clap.proofs.WalkLemmas.{first_value-rows}
use Rattle.keep_args.specs.Chosen.{word_in}

module _ {Z : Type 0} where
  rows_at : (o : Option (Box SubCommand Z)) (name : Text) (rows : List Row)
      → Some name ≡ option_map (λ b. (out-SubCommand (box_value b)).name.now) o
      → Some rows ≡ option_map (λ p. p.1) (subcommand_rows o) → subcommand_rows o ≡ Some (name, rows)
  rows_at None name rows a b = cc
  rows_at (Some x) name rows a b =
      let n : name ≡ (out-SubCommand (box_value x)).name.now = cc in
      let r : rows ≡ rows_of (found_of (out-SubCommand (box_value x)).matches) = cc in
      ap₂ (λ (t : Text) (rs : List Row). Some (t, rs)) (sym n) (sym r)

pub rows_met : (m : ArgMatches) (name : Text) (rows : List Row) → Some name ≡ subcommand_name_of m
    → Some rows ≡ option_map (λ p. p.1) (subcommand_rows_of m) → subcommand_rows_of m ≡ Some (name, rows)
rows_met m name rows a b = rows_at (out-ArgMatches m).subcommand name rows a b

pub word_met : (f : Found) (id : Text) (found : Option Text) → found ≡ first_value f id
    → unwrap_or found [] ≡ word_in id (rows_of f)
word_met f id found e = ap (λ (o : Option Text). unwrap_or o []) (e ∙ first_value-rows f id)
