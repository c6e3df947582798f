-- With no memory for the root there is no index.
use Rattle.std.proofs.Common.{refl}
use Rattle.std.proofs.lemmas.Result.{err_from_is_err_and}
use Rattle.keep_rules.proofs.index.Index.build.Goals as goal

pub returns-in_err-root : goal.returns-in_err-root
returns-in_err-root c =
    let p = err_from_is_err_and c.from_residual.result c.from_residual.ensures.1 in
    rw (p.1, p.2) (record { ok = λ d was. tt; read = λ d was obeys. refl; few = tt; faults = λ d was. tt })
