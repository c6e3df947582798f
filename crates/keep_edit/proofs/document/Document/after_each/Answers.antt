use Rattle.std.proofs.Common.{inl}
use Rattle.std.proofs.lemmas.Result.{err_from_is_err_and}
use Rattle.keep_edit_runs.proofs.Shared.{none_made}
use Rattle.keep_edit.proofs.document.Document.after_each.Goals as goal

pub returns-in_err-apply_from-clause-done : goal.returns-in_err-apply_from-clause-done
returns-in_err-apply_from-clause-done c = λ s h.
    let p = err_from_is_err_and c.from_residual.result c.from_residual.ensures.1 in
    rw (p.1, p.2)
    (inl (c.in_err-apply_from.ensures.done s c.args.self.now
    (c.in-Ok.ensures.made s c.args.self.now (none_made s c.args.self.now h))))

pub returns-clause-done : goal.returns-clause-done
returns-clause-done c = λ s h.
    c.in_ok-apply_from.ensures.done s c.args.self.now
    (c.in-Ok.ensures.made s c.args.self.now (none_made s c.args.self.now h))
