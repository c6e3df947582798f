use Rattle.std.proofs.Common.{◌≡◌, ◌∙◌, ◌+◌, ◌<◌, All, arith, length, refl, subst, suc, sym, ℕ}
use Rattle.keep_edit_plan.specs.Reading.{ProfiledText}
use Rattle.keep_edit_plan.specs.TextEdits.{IsChangeIn}
use Rattle.keep_edit_runs.specs.KindsRun.{StartsAt}
use Rattle.keep_edit_runs.proofs.MoreKeySteps.{AreKeyedIn, keyed_begins, keyed_longer, keyed_made}
use Rattle.keep_edit_runs.proofs.TailLaws.{in_begins}
use Rattle.keep_edit_runs.proofs.before.Before.changes_with_more_keys.Goals as goal

pub loop-number-init : goal.loop-number-init
loop-number-init c =
    let edits = c.args.edits.now in
    let first = c.args.first in
    let now = c.args.self.now in
    let run = c.new-run.result in
    let starts : StartsAt now run = subst (λ (t : ProfiledText). StartsAt t run) c.as_ref.ensures c.new-run.ensures in (
      keyed_begins edits first now run starts,
      (
        (
          (in_begins edits first now run (omega (arith, c.requires)) starts).1,
          record { blocks = starts.blocks; headers = starts.outlines_at_end; arrays = starts.arrays },
        ),
        tt,
      ),
    )

pub loop-number-preserved : goal.loop-number-preserved
loop-number-preserved c =
    let edits = c.args.edits.now in
    let first = c.args.first in
    let now = c.args.self.now in
    let number = c.loop-number.number in
    let run = c.goes_on_with_keys.new.run in
    let table = c.goes_on_with_keys.new.table in
    let (so_far, (old, known)) = c.loop-number.invariant in
    let low : number < length edits = omega (arith, c.loop-number-test.true, c.min-end.ensures) in
    let one : suc number ≡ number + 1 = omega arith in
    let done = c.goes_on_with_keys.ensures.done c.if-not-goes_on_with_keys.false in (
      subst (λ (n : ℕ). AreKeyedIn edits first n now run table) one
          (keyed_longer edits first number now c.loop-number.run run c.loop-number.table table so_far known low done),
      ((done.run, done.none), done.known),
    )

pub returns-clause-made : goal.returns-clause-made
returns-clause-made c =
    let edits = c.args.edits.now in
    let first = c.args.first in
    let now = c.args.self.now in
    let run = c.loop-number.run in
    let table = c.loop-number.table in
    let end : c.loop-number.number ≡ c.min-end.result =
    omega (arith, c.loop-number-test.false, c.loop-number.auto.number-end, c.min-end.ensures, c.requires) in
    keyed_made edits first now run.so_far.outlines.items run.so_far.changes run.lines run.gone table
    (subst (λ (n : ℕ). AreKeyedIn edits first n now run table) end c.loop-number.invariant.0) c.up_to-2.ensures.0
    c.up_to-2.ensures.1

pub returns-clause-within : goal.returns-clause-within
returns-clause-within c =
    subst (All (IsChangeIn c.args.self.now.text)) (sym c.up_to-2.ensures.0) c.loop-number.invariant.0.within

pub returns-then-not-goes_on_with_keys-clause-made : goal.returns-then-not-goes_on_with_keys-clause-made
returns-then-not-goes_on_with_keys-clause-made c =
    let run = c.loop-number.run in
    keyed_made c.args.edits.now c.args.first c.args.self.now run.so_far.outlines.items run.so_far.changes run.lines
    run.gone c.loop-number.table c.loop-number.invariant.0
    (c.up_to.ensures.0 ∙ c.if-not-goes_on_with_keys.ensures.refused refl) c.up_to.ensures.1

pub returns-then-not-goes_on_with_keys-clause-within : goal.returns-then-not-goes_on_with_keys-clause-within
returns-then-not-goes_on_with_keys-clause-within c =
    subst (All (IsChangeIn c.args.self.now.text))
    (sym (c.up_to.ensures.0 ∙ c.if-not-goes_on_with_keys.ensures.refused refl)) c.loop-number.invariant.0.within
