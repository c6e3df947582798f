use Rattle.std.proofs.lemmas.Result.{err_from_is_err_and}
use Rattle.keep_edit.proofs.EditedLaws.{done_of, undone_of}
use Rattle.keep_edit.proofs.document.Document.apply_plan.Goals as goal

pub returns-in_err-plan-clause-done : goal.returns-in_err-plan-clause-done
returns-in_err-plan-clause-done c = λ s read e planned.
    let p = err_from_is_err_and c.from_residual.result c.from_residual.ensures.1 in
    rw (p.1, p.2) (undone_of s e c.args.self.now c.args.self.now _ (rw c.in_err-plan.was at planned))

pub returns-clause-done : goal.returns-clause-done
returns-clause-done c =
    λ s read e planned.
    done_of s e c.args.self.now _ c.in_ok-plan.plan _ read (rw c.in_ok-plan.was at planned) c.replaced.ensures.moved
