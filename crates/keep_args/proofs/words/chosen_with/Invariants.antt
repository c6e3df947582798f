-- The words so far.
use Rattle.std.proofs.Common.{◌≡◌, map, take, string_bytes}
use Rattle.clap.specs.Words.{found_of, rows_of}
use Rattle.keep_args.specs.Chosen.{word_in}
use Rattle.keep_args.specs.App.{word_ids}
use Rattle.keep_args.proofs.words.chosen_with.Given as goal

abbrev pub invariant-loop-place : goal.invariant-loop-place
invariant-loop-place l =
    map string_bytes l.words.items ≡ map (λ id. word_in id (rows_of (found_of l.matches))) (take l.place word_ids)
