use Rattle.std.proofs.Common.{ℕ, ◌≡◌, ◌<◌, ◌-◌, suc, sym, subst, take, length, arith}
use Rattle.keep_edit.specs.Answers.{IsEdited}
use Rattle.keep_edit.specs.Lists.{AreMade}
use Rattle.keep_edit.proofs.FoldLaws.{made_all, one_stopped}
use Rattle.keep_edit_runs.proofs.Shared.{none_made, one_made}
use Rattle.keep_edit.proofs.document.Document.apply_only.Goals as goal

pub returns-in-Ok-clause-done : goal.returns-in-Ok-clause-done
returns-in-Ok-clause-done c = λ s h.
    let edits = c.args.edits.now in
    let old = c.args.self.now in
    let new = c.apply.new.self in
    let before = none_made s old h in
    let (e, given) = c.in-Ok.ensures.edit in
    let some : 0 < length edits = omega arith in
    let last : 0 ≡ length edits - 1 = omega arith in
    let made =
    one_made (IsEdited before.tree e new old) s edits old old 0 c.index-edits-0.result c.index-edits-0.result e some
    (sym c.index-edits-0.is) given before new c.in-Ok.field-0 (λ done. done.1)
    (c.in-Ok.ensures.done before.tree before.read e given) in
    made_all s edits old new some (subst (λ (n : ℕ). AreMade s (take (suc n) edits) old new) last made)

pub returns-in-Err-clause-done : goal.returns-in-Err-clause-done
returns-in-Err-clause-done c = λ s h.
    let edits = c.args.edits.now in
    let old = c.args.self.now in
    let before = none_made s old h in
    let (e, given) = c.in-Err.ensures.edit in
    one_stopped (IsEdited before.tree e c.apply.new.self old) s edits old old 0 c.index-edits-0.result
    c.index-edits-0.result e
    (omega arith) (sym c.index-edits-0.is) given before c.in-Err.fault
    (c.in-Err.ensures.done before.tree before.read e given)
