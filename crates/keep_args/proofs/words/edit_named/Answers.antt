use Rattle.std.proofs.Common.{◌∙◌, ap}
use Rattle.keep_args.specs.Table.{Row, row_of, table}
use Rattle.keep_args.specs.Wanted.{op_in, row_named}
use Rattle.keep_args.proofs.Building.{op_met, words_met}
use Rattle.keep_args.proofs.words.edit_named.Goals as goal

pub returns-in-Some-clause-op : goal.returns-in-Some-clause-op
returns-in-Some-clause-op c =
    c.in-Some.ensures
    ∙ (ap (λ (row : Row). op_in row.ask) c.row_named-row.ensures ∙ op_met (row_named c.args.name.now table))

pub returns-in-Some-clause-words : goal.returns-in-Some-clause-words
returns-in-Some-clause-words c =
    words_met c.args.name.now (row_of c.row_named-row.result.now) c.in-Some.op c.row_named-row.ensures c.in-Some.ensures

pub returns-in-None-clause-op : goal.returns-in-None-clause-op
returns-in-None-clause-op c =
    c.in-None.ensures
    ∙ (ap (λ (row : Row). op_in row.ask) c.row_named-row.ensures ∙ op_met (row_named c.args.name.now table))
