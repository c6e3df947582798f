use Rattle.std.proofs.Common.{◌<◌, ◌≤◌, ◌∙◌, Option, ap, arith, length, sym, unwrap_or}
use Rattle.std.proofs.lemmas.List.{at_drop_all, length-map}
use Rattle.keep_args.specs.Table.{Row, first_row, row_of, table}
use Rattle.keep_args.specs.Wanted.{row_named}
use Rattle.keep_args.proofs.Building.{next_row}
use Rattle.keep_args.proofs.words.row_named.Goals as goal

pub loop-number-preserved : goal.loop-number-preserved
loop-number-preserved c =
    let rows = c.rows-number-end in
    let lt : c.loop-number.number < length table =
    omega (arith, c.loop-number-test.true, ap length rows.ensures, length-map rows.result.now row_of) in
    next_row table c.loop-number.number first_row (row_of c.row_at-row.result.now) c.args.name.now lt
    c.row_at-row.ensures (sym c.eq.ensures ∙ c.if-eq.false) c.loop-number.invariant

pub returns : goal.returns
returns c =
    let rows = c.rows-number-end in
    let all : length table ≤ c.loop-number.number =
    omega (arith, c.loop-number-test.false, ap length rows.ensures, length-map rows.result.now row_of) in
    let none = at_drop_all (row_named c.args.name.now) table c.loop-number.number all in
    c.row_at.ensures ∙ ap (λ (o : Option Row). unwrap_or o first_row) (sym none ∙ c.loop-number.invariant)
