-- The command has the words so far.
use Rattle.std.proofs.Common.{◌≡◌, false, map, take}
use Rattle.clap.specs.Words.{app_of}
use Rattle.clap.specs.declared.builder.command.Command.TheViews.{out-Command as fields_of}
use Rattle.clap.specs.Simple.{new_shape}
use Rattle.keep_args.specs.App.{word_ids, word_rule}
use Rattle.keep_args.proofs.words.row_command.Given as goal

abbrev pub invariant-loop-place : goal.invariant-loop-place
invariant-loop-place l = record {
  shape : (app_of l.inner).top ≡ record (new_shape l.row.0.now) { rules = map word_rule (take l.place word_ids) };
  local : (fields_of l.inner).has_globals ≡ false;
}
