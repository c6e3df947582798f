use Rattle.std.proofs.Common.{◌<◌, ap, arith, length}
use Rattle.std.proofs.lemmas.List.{length-map}
use Rattle.clap.specs.Words.{app_of}
use Rattle.keep_args.specs.Table.{first_row, row_of, table}
use Rattle.keep_args.proofs.Building.{row_added}
use Rattle.keep_args.proofs.words.keep_command.Goals as goal

pub loop-number-preserved : goal.loop-number-preserved
loop-number-preserved c =
    let rows = c.rows-number-end in
    let lt : c.loop-number.number < length table =
    omega (arith, c.loop-number-test.true, ap length rows.ensures, length-map rows.result.now row_of) in
    row_added table c.loop-number.number first_row (row_of c.row_at.result.now) (app_of c.loop-number.command)
    (app_of c.in_ok-command-2.command) lt c.row_at.ensures c.loop-number.invariant c.in_ok-command-2.ensures
