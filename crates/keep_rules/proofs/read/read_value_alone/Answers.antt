use Rattle.std.proofs.lemmas.Result.{err_from_is_err_and}
use Rattle.keep_rules.proofs.read.read_value_alone.Goals as goal

pub returns-in_err-value_tree : goal.returns-in_err-value_tree
returns-in_err-value_tree c =
    let p = err_from_is_err_and c.from_residual.result c.from_residual.ensures.1 in
    let checked = c.in_err-value_tree.ensures.checked in
    rw (p.1, p.2) (record { ok = checked.ok; read = checked.read; faults = checked.faults })
