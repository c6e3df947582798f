-- The program has the subcommands so far.
use Rattle.std.proofs.Common.{◌≡◌, take}
use Rattle.clap.specs.Words.{app_of}
use Rattle.keep_args.specs.App.{app_with}
use Rattle.keep_args.specs.Table.{table}
use Rattle.keep_args.proofs.words.keep_command.Given as goal

abbrev pub invariant-loop-number : goal.invariant-loop-number
invariant-loop-number l = app_of l.command ≡ app_with (take l.number table)
