-- The rows so far have other names.
use Rattle.std.proofs.Common.{◌≡◌, drop}
use Rattle.keep_args.specs.Table.{table}
use Rattle.keep_args.specs.Wanted.{row_named}
use Rattle.keep_args.proofs.words.row_named.Given as goal

abbrev pub invariant-loop-number : goal.invariant-loop-number
invariant-loop-number l = row_named l.name (drop l.number table) ≡ row_named l.name table
