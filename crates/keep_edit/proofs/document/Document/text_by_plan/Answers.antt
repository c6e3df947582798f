use Rattle.std.proofs.lemmas.Result.{err_from_is_err_and}
use Rattle.keep_edit.proofs.EditedLaws.{no_text_of, report_of}
use Rattle.keep_edit.proofs.document.Document.text_by_plan.Goals as goal

pub returns-in_err-plan : goal.returns-in_err-plan
returns-in_err-plan c = λ s read e planned.
    let p = err_from_is_err_and c.from_residual.result c.from_residual.ensures.1 in
    rw (p.1, p.2) (no_text_of s e c.args.self.now _ (rw c.in_err-plan.was at planned))

pub returns : goal.returns
returns c =
    λ s read e planned.
    report_of s e c.args.self.now c.in_ok-plan.plan _ (rw c.in_ok-plan.was at planned) c.text_after.ensures
