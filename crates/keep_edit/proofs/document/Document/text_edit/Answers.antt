use Rattle.std.proofs.lemmas.Result.{err_from_is_err_and}
use Rattle.keep_edit.proofs.EditedLaws.{nothing_written, written_of}
use Rattle.keep_edit.proofs.document.Document.text_edit.Goals as goal

pub returns-in_err-plan-clause-stated : goal.returns-in_err-plan-clause-stated
returns-in_err-plan-clause-stated c = λ s read e is.
    let p = err_from_is_err_and c.from_residual.result c.from_residual.ensures.1 in
    rw (
      p.1,
      p.2,
    ) (nothing_written s e c.args.self.now _ ((rw c.as_ref.ensures at c.in_err-plan.ensures.planned) s read e is))

pub returns-clause-stated : goal.returns-clause-stated
returns-clause-stated c =
    λ s read e is.
    written_of s e c.args.self.now c.in_ok-plan.plan ((rw c.as_ref.ensures at c.in_ok-plan.ensures.planned) s read e is)

pub returns-clause-within : goal.returns-clause-within
returns-clause-within c = (rw c.as_ref.ensures at c.in_ok-plan.ensures.of_edit).0.within
