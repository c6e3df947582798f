use Rattle.std.proofs.Common.{◌<◌, ◌∙◌, List, ap, arith, get_or, length, sym}
use Rattle.std.proofs.lemmas.List.{get_or-map, length-map}
use Rattle.keep_args.specs.Table.{Row, first_row, row_of}
use Rattle.keep_args.proofs.words.row_at.Goals as goal

pub returns : goal.returns
returns c =
    let many : c.args.number < length c.rows.result.now =
    omega (arith, c.requires, ap length c.rows.ensures, length-map c.rows.result.now row_of) in
    sym (get_or-map row_of c.rows.result.now c.args.number _ first_row many)
    ∙ ap (λ (rows : List Row). get_or rows c.args.number first_row) c.rows.ensures
