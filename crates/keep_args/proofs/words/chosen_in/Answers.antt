use Rattle.clap.specs.Words.{found_of, rows_of}
use Rattle.keep_args.proofs.Rows.{rows_met}
use Rattle.keep_args.proofs.words.chosen_in.Goals as goal

pub returns : goal.returns
returns c =
    rw (
      rows_met c.args.matches.now c.in-Some.name.now (rows_of (found_of c.in-Some.inner.now)) c.in-Some.ensures.name
          c.in-Some.ensures.rows,
      ← c.row_named.ensures,
    ) c.chosen_with.ensures
