use Rattle.std.proofs.Common.{◌≡◌, ◌+◌, ◌<◌, ℕ, ap, arith, length, refl, subst, suc}
use Rattle.keep_edit_runs.specs.KindsRun.{StartsAt}
use Rattle.keep_edit_plan.specs.Reading.{ProfiledText}
use Rattle.keep_edit_runs.proofs.TailLaws.{in_begins, in_few, in_made, in_within}
use Rattle.keep_edit_runs.proofs.TailRuns.{AreMadeIn}
use Rattle.keep_edit_runs.proofs.TailSteps.{run_longer}
use Rattle.keep_edit_runs.proofs.before.Before.changes_of_kinds.Goals as goal

pub loop-number-init : goal.loop-number-init
loop-number-init c =
    in_begins c.args.edits.now c.args.first c.args.self.now c.new-run.result (omega (arith, c.requires))
    (subst (λ (now : ProfiledText). StartsAt now c.new-run.result) c.as_ref.ensures c.new-run.ensures)

pub goes_on-requires-clause-elsewhere : goal.goes_on-requires-clause-elsewhere
goes_on-requires-clause-elsewhere c = c.loop-number.invariant.0.base.elsewhere

pub goes_on-requires-clause-within : goal.goes_on-requires-clause-within
goes_on-requires-clause-within c = c.loop-number.invariant.0.base.within

pub loop-number-preserved : goal.loop-number-preserved
loop-number-preserved c =
    let edits = c.args.edits.now in
    let first = c.args.first in
    let now = c.args.self.now in
    let number = c.loop-number.number in
    let (so_far, run) = c.loop-number.invariant in
    let low : number < length edits = omega (arith, c.loop-number-test.true, c.min-end.ensures) in
    let one : suc number ≡ number + 1 = omega arith in (
      subst (λ (n : ℕ). AreMadeIn edits first n now c.goes_on.new.run) one
          (run_longer edits first number now c.loop-number.run c.goes_on.new.run so_far run low
          (c.goes_on.ensures.done c.if-not-goes_on.false)),
      c.goes_on.ensures.run c.if-not-goes_on.false,
    )

-- behind the last one, all are gone through
end_is : (c : goal.After-drop-room-2) → c.loop-number.number ≡ c.min-end.result
end_is c = omega (arith, c.loop-number-test.false, c.loop-number.auto.number-end, c.min-end.ensures, c.requires)

at_end : (c : goal.After-drop-room-2) → AreMadeIn c.args.edits.now c.args.first c.min-end.result c.args.self.now
    c.loop-number.run
at_end c =
    subst (λ (n : ℕ). AreMadeIn c.args.edits.now c.args.first n c.args.self.now c.loop-number.run) (end_is c)
    c.loop-number.invariant.0

pub returns-clause-few : goal.returns-clause-few
returns-clause-few c =
    let (low, high) =
    in_few c.args.edits.now c.args.first c.min-end.result _ c.args.self.now c.loop-number.run c.loop-number.run
    (at_end c) (record { changes = refl; tail = refl }) c.up_to-2.result
    (ap (λ (t : ProfiledText). length t.text) c.self.view_is) c.up_to-2.ensures
    (omega (arith, end_is c, c.loop-number.auto.number)) in
    (low, omega (arith, high, c.min-end.ensures))

pub returns-then-not-goes_on-clause-few : goal.returns-then-not-goes_on-clause-few
returns-then-not-goes_on-clause-few c =
    let (low, high) =
    in_few c.args.edits.now c.args.first c.loop-number.number _ c.args.self.now c.loop-number.run c.goes_on.new.run
    c.loop-number.invariant.0 (c.if-not-goes_on.ensures.refused refl) c.up_to.result
    (ap (λ (t : ProfiledText). length t.text) c.self.view_is) c.up_to.ensures c.loop-number.auto.number in
    (low, omega (arith, high, c.loop-number-test.true, c.min-end.ensures))

pub returns-clause-made : goal.returns-clause-made
returns-clause-made c =
    in_made c.args.edits.now c.args.first c.min-end.result _ c.args.self.now c.loop-number.run c.loop-number.run
    (at_end c) (record { changes = refl; tail = refl }) c.up_to-2.result
    (ap (λ (t : ProfiledText). length t.text) c.self.view_is) c.up_to-2.ensures

pub returns-clause-within : goal.returns-clause-within
returns-clause-within c =
    in_within c.args.edits.now c.args.first c.min-end.result _ c.args.self.now c.loop-number.run c.loop-number.run
    (at_end c) (record { changes = refl; tail = refl }) c.up_to-2.result
    (ap (λ (t : ProfiledText). length t.text) c.self.view_is) c.up_to-2.ensures

pub returns-then-not-goes_on-clause-made : goal.returns-then-not-goes_on-clause-made
returns-then-not-goes_on-clause-made c =
    in_made c.args.edits.now c.args.first c.loop-number.number _ c.args.self.now c.loop-number.run c.goes_on.new.run
    c.loop-number.invariant.0 (c.if-not-goes_on.ensures.refused refl) c.up_to.result
    (ap (λ (t : ProfiledText). length t.text) c.self.view_is) c.up_to.ensures

pub returns-then-not-goes_on-clause-within : goal.returns-then-not-goes_on-clause-within
returns-then-not-goes_on-clause-within c =
    in_within c.args.edits.now c.args.first c.loop-number.number _ c.args.self.now c.loop-number.run c.goes_on.new.run
    c.loop-number.invariant.0 (c.if-not-goes_on.ensures.refused refl) c.up_to.result
    (ap (λ (t : ProfiledText). length t.text) c.self.view_is) c.up_to.ensures
