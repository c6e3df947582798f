use Rattle.std.proofs.Common.{ℕ, ◌≡◌, ◌<◌, ◌+◌, suc, sym, subst, take, length, arith}
use Rattle.keep_edit.specs.Answers.{IsEdited}
use Rattle.keep_edit.specs.Lists.{AreMade}
use Rattle.keep_edit.proofs.FoldLaws.{one_stopped}
use Rattle.keep_edit_runs.proofs.Shared.{one_made}
use Rattle.keep_edit.proofs.document.Document.apply_up_to.Goals as goal

pub returns-in-Err-clause-done : goal.returns-in-Err-clause-done
returns-in-Err-clause-done c = λ s old h.
    let before = c.loop-index.invariant s old h in
    let (e, given) = c.in-Err.ensures.edit in
    one_stopped (IsEdited before.tree e c.apply.new.self c.loop-index.self) s c.args.edits.now old c.loop-index.self
    c.loop-index.index c.index-edits-index.result c.index-edits-index.result e
    (omega (arith, c.loop-index-test.true, c.requires.1)) (sym c.index-edits-index.is) given before c.in-Err.fault
    (c.in-Err.ensures.done before.tree before.read e given)

pub loop-index-preserved : goal.loop-index-preserved
loop-index-preserved c =
    let i = c.loop-index.index in
    let edits = c.args.edits.now in
    let new = c.apply.new.self in
    let lt : i < length edits = omega (arith, c.loop-index-test.true, c.requires.1) in
    let one : suc i ≡ i + 1 = omega arith in
    let (e, given) = c.in_default.ensures.edit in
    λ s old h.
    let before = c.loop-index.invariant s old h in
    subst (λ (n : ℕ). AreMade s (take n edits) old new) one
    (one_made (IsEdited before.tree e new c.loop-index.self) s edits old c.loop-index.self i
    c.index-edits-index.result c.index-edits-index.result e lt (sym c.index-edits-index.is) given before new
    c.in_default.field-0 (λ done. done.1) (c.in_default.ensures.done before.tree before.read e given))
