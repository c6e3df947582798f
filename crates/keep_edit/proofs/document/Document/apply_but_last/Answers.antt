use Rattle.std.proofs.Common.{◌≡◌, ◌-◌, ◌<◌, List, arith, length, subst, sym, take, ℕ}
use Rattle.std.proofs.lemmas.List.{take_all}
use Rattle.keep_edit_plan.specs.declared.edit.Edit.{Edit}
use Rattle.keep_edit_runs.specs.Runs.{MakeChanges, changed_text}
use Rattle.keep_edit_runs.proofs.Shared.{none_made, one_made}
use Rattle.keep_edit.specs.Answers.{IsMade, text_after}
use Rattle.keep_edit.specs.Lists.{AreMade}
use Rattle.keep_edit.specs.Reading.{ProfiledText, text_in}
use Rattle.keep_edit.proofs.FoldLaws.{made_all, one_stopped}
use Rattle.keep_edit.proofs.document.Document.apply_but_last.Goals as goal

pub loop-first-init : goal.loop-first-init
loop-first-init c = (λ s h. none_made s c.args.self.now h, omega arith)

pub returns-then-run-last-clause-done : goal.returns-then-run-last-clause-done
returns-then-run-last-clause-done c = λ s h.
    let edits : List Edit = c.args.edits.now in
    let run = c.in-AtOnce.run' in
    let made : AreMade s (take run.end edits) c.args.self.now (changed_text c.loop-first.self run.changes) =
    subst (λ (now : ProfiledText). MakeChanges edits c.loop-first.first run.end now run.changes)
    c.before-in-loop-first.ensures c.in-AtOnce.ensures.made.0 s c.args.self.now (c.loop-first.invariant.0 s h) in
    subst (λ (xs : List Edit). AreMade s xs c.args.self.now (changed_text c.loop-first.self run.changes))
    (take_all run.end edits (omega (arith, c.if-run-last.true))) made

pub returns-in-Ok-clause-done : goal.returns-in-Ok-clause-done
returns-in-Ok-clause-done c = λ s h.
    let edits : List Edit = c.args.edits.now in
    let mid = c.loop-first.self in
    let lt : length edits - 1 < length edits = omega (arith, c.requires) in
    let last : c.loop-first.first ≡ length edits - 1 =
    omega (arith, c.loop-first.invariant.1, c.loop-first-test.false) in
    let before : AreMade s (take (length edits - 1) edits) c.args.self.now mid =
    subst (λ (n : ℕ). AreMade s (take n edits) c.args.self.now mid) last (c.loop-first.invariant.0 s h) in
    let (e, given) = c.in-Ok.ensures.edit in
    made_all s edits c.args.self.now _ c.requires
    (one_made (IsMade before.tree e mid) s edits c.args.self.now mid (length edits - 1) c.index-edits-last.result
    c.index-edits-last.result e lt (sym c.index-edits-last.is) given before
    (text_in mid.profile (text_after mid.text c.in-Ok.edit)) c.in-Ok.edit (λ made. made.1)
    (c.in-Ok.ensures.stated before.tree before.read e given))

pub returns-in-Err-clause-done : goal.returns-in-Err-clause-done
returns-in-Err-clause-done c = λ s h.
    let edits : List Edit = c.args.edits.now in
    let mid = c.loop-first.self in
    let lt : length edits - 1 < length edits = omega (arith, c.requires) in
    let last : c.loop-first.first ≡ length edits - 1 =
    omega (arith, c.loop-first.invariant.1, c.loop-first-test.false) in
    let before : AreMade s (take (length edits - 1) edits) c.args.self.now mid =
    subst (λ (n : ℕ). AreMade s (take n edits) c.args.self.now mid) last (c.loop-first.invariant.0 s h) in
    let (e, given) = c.in-Err.ensures.edit in
    one_stopped (IsMade before.tree e mid) s edits c.args.self.now mid (length edits - 1) c.index-edits-last.result
    c.index-edits-last.result e lt (sym c.index-edits-last.is) given before c.in-Err.fault
    (c.in-Err.ensures.stated before.tree before.read e given)
