use Rattle.std.proofs.Common.{◌≡◌, ◌+◌, ◌<◌, ◌++◌, ◌∷◌, [], ℕ, All, List, suc, length, refl, sym, subst, inl, inr}
use Rattle.std.proofs.Common.{subst₂, ◌∙◌, arith}
use Rattle.std.proofs.lemmas.List.Elements.{All-append, All-nil, All-weaker}
use Rattle.keep_edit_spec.specs.TextChanges.{TextChange}
use Rattle.keep_edit_plan.specs.TextEdits.{change_of}
use Rattle.keep_edit_plan.specs.Reading.{ProfiledText}
use Rattle.keep_edit_runs.specs.Again.{outlines_of}
use Rattle.keep_edit_runs.specs.Newlines.{IsNewlineOf}
use Rattle.keep_edit_runs.specs.Runs.{LeavesAlone, MakesInRunHere, outlined}
use Rattle.keep_edit_runs.specs.Seen.{IsSeen}
use Rattle.keep_edit_runs.specs.declared.outline.Outline.{Outline}
use Rattle.keep_edit_runs.proofs.AgainSteps.{made_once_more}
use Rattle.keep_edit_runs.proofs.AheadSteps.{more_ahead}
use Rattle.keep_edit_runs.proofs.FollowSteps.{more_following}
use Rattle.keep_edit_runs.proofs.InPlaceSteps.{more_before}
use Rattle.keep_edit_runs.proofs.KindLaws.{placed_of_kind}
use Rattle.keep_edit_runs.proofs.NewlineSteps.{allow_here}
use Rattle.keep_edit_runs.proofs.RunSteps.{AreMadeTo, all_made, all_within, more_changes, no_changes}
use Rattle.keep_edit_runs.proofs.SeenLaws.{more_seen}
use Rattle.keep_edit_runs.proofs.before.Before.changes_by.Goals as goal

pub loop-number-init : goal.loop-number-init
loop-number-init c =
    let edits = c.args.edits.now in
    let first = c.args.first in
    let now = c.args.self.now in
    let (no_outlines, none) = c.new-so_far.ensures in (
      subst₂ (λ os cs. AreMadeTo edits first first now os cs c.new-lines.result) (sym no_outlines) (sym none)
          (no_changes edits first now c.new-lines.result c.new-lines.ensures.brought c.new-lines.ensures.counts),
      subst (All (IsSeen c.new-keys.result)) (sym no_outlines) (All-nil (IsSeen c.new-keys.result)),
      c.new-planner.ensures ∙ c.as_ref.ensures,
    )

pub keep_alone-requires : goal.keep_alone-requires
keep_alone-requires c =
    subst (All (IsSeen c.loop-number.keys)) (sym c.as_slice.ensures.value) c.loop-number.invariant.1

pub returns-clause-made : goal.returns-clause-made
returns-clause-made c =
    all_made c.args.edits.now c.args.first c.args.self.now _ _ _ c.loop-number.invariant.0 c.up_to-2.ensures.0
    (c.up_to-2.ensures.1 ∙ omega (arith, c.loop-number-test.false, c.loop-number.auto.number-end))

pub returns-then-not-keep_alone-clause-made : goal.returns-then-not-keep_alone-clause-made
returns-then-not-keep_alone-clause-made c =
    all_made c.args.edits.now c.args.first c.args.self.now _ _ _ c.loop-number.invariant.0
    c.up_to-then-not-keep_alone.ensures.0 c.up_to-then-not-keep_alone.ensures.1

pub returns-in_default-change_in_run-clause-made :
    goal.returns-in_default-change_in_run-clause-made
returns-in_default-change_in_run-clause-made c =
    all_made c.args.edits.now c.args.first c.args.self.now _ _ _ c.loop-number.invariant.0
    c.up_to-in_default-change_in_run.ensures.0 c.up_to-in_default-change_in_run.ensures.1

pub returns-then-not-add_in_order-clause-made : goal.returns-then-not-add_in_order-clause-made
returns-then-not-add_in_order-clause-made c =
    all_made c.args.edits.now c.args.first c.args.self.now _ _ _ c.loop-number.invariant.0
    (c.up_to-then-not-add_in_order.ensures.0 ∙ c.if-not-add_in_order.ensures.refused refl)
    c.up_to-then-not-add_in_order.ensures.1

pub returns-clause-within : goal.returns-clause-within
returns-clause-within c =
    all_within c.args.edits.now c.args.first c.args.self.now _ _ _ c.loop-number.invariant.0
    c.up_to-2.ensures.0

pub returns-then-not-keep_alone-clause-within : goal.returns-then-not-keep_alone-clause-within
returns-then-not-keep_alone-clause-within c =
    all_within c.args.edits.now c.args.first c.args.self.now _ _ _ c.loop-number.invariant.0
    c.up_to-then-not-keep_alone.ensures.0

pub returns-in_default-change_in_run-clause-within : goal.returns-in_default-change_in_run-clause-within
returns-in_default-change_in_run-clause-within c =
    all_within c.args.edits.now c.args.first c.args.self.now _ _ _ c.loop-number.invariant.0
    c.up_to-in_default-change_in_run.ensures.0

pub returns-then-not-add_in_order-clause-within : goal.returns-then-not-add_in_order-clause-within
returns-then-not-add_in_order-clause-within c =
    all_within c.args.edits.now c.args.first c.args.self.now _ _ _ c.loop-number.invariant.0
    (c.up_to-then-not-add_in_order.ensures.0 ∙ c.if-not-add_in_order.ensures.refused refl)

pub returns-then-not-allow_again-clause-made : goal.returns-then-not-allow_again-clause-made
returns-then-not-allow_again-clause-made c =
    all_made c.args.edits.now c.args.first c.args.self.now _ _ _ c.loop-number.invariant.0 c.up_to.ensures.0
    c.up_to.ensures.1

pub returns-then-not-allow_again-clause-within : goal.returns-then-not-allow_again-clause-within
returns-then-not-allow_again-clause-within c =
    all_within c.args.edits.now c.args.first c.args.self.now _ _ _ c.loop-number.invariant.0 c.up_to.ensures.0

pub returns-then-not-put_again-clause-made : goal.returns-then-not-put_again-clause-made
returns-then-not-put_again-clause-made c =
    all_made c.args.edits.now c.args.first c.args.self.now _ _ _ c.loop-number.invariant.0
    (c.up_to-then-not-put_again.ensures.0 ∙ c.if-not-put_again.ensures.refused refl)
    c.up_to-then-not-put_again.ensures.1

pub returns-then-not-put_again-clause-within : goal.returns-then-not-put_again-clause-within
returns-then-not-put_again-clause-within c =
    all_within c.args.edits.now c.args.first c.args.self.now _ _ _ c.loop-number.invariant.0
    (c.up_to-then-not-put_again.ensures.0 ∙ c.if-not-put_again.ensures.refused refl)

pub loop-number-preserved-in-Some : goal.loop-number-preserved-in-Some
loop-number-preserved-in-Some c =
    let edits = c.args.edits.now in
    let first = c.args.first in
    let now = c.args.self.now in
    let number = c.loop-number.number in
    let x = c.index-edits-number.result in
    let a = c.in-Some.again in
    let outlines = c.loop-number.so_far.outlines.items in
    let changes = c.loop-number.so_far.changes in
    let new = c.put_again.new.self.changes in
    let seen_then = IsSeen c.loop-number.keys in
    let seen_now = IsSeen c.allow_again.new.self in
    let (so_far, seen, plans) = c.loop-number.invariant in
    let newline = subst (λ (d : ProfiledText). IsNewlineOf d c.self.inside.newline) c.self.view_is c.self.invariant.1 in
    let low : number < length edits = omega (arith, c.loop-number-test.true, c.min-end.ensures) in
    let one : suc number ≡ number + 1 = omega arith in
    let put = c.put_again.ensures.changes c.if-not-put_again.false in
    let pushed = c.put_again.ensures.outlines c.if-not-put_again.false in (
      subst₂ (λ (n : ℕ) (os : List Outline). AreMadeTo edits first n now os new c.loop-number.lines) one
          (sym pushed)
          (made_once_more edits first number now outlines changes new c.loop-number.lines x x a seen_then so_far
          low (sym c.index-edits-number.is) c.in-Some.ensures.again
          (allow_here now c.self.inside.newline newline seen_then a
          (c.allow_again.ensures.allowed c.if-not-allow_again.false))
          (c.put_again.ensures.lines c.if-not-put_again.false) seen put),
      subst (All seen_now) (sym pushed)
          (All-append seen_now outlines (outlines_of a)
          (All-weaker seen_then seen_now c.allow_again.ensures.others outlines seen)
          (c.allow_again.ensures.seen c.if-not-allow_again.false)),
      c.again.ensures.planner ∙ plans,
    )

pub loop-number-preserved : goal.loop-number-preserved
loop-number-preserved c =
    let edits = c.args.edits.now in
    let first = c.args.first in
    let now = c.args.self.now in
    let number = c.loop-number.number in
    let x = c.index-edits-number.result in
    let o = c.of-outline.result in
    let outlines = c.loop-number.so_far.outlines.items in
    let changes = c.loop-number.so_far.changes in
    let made = c.in-Some-change_in_run.made in
    let change = made.change in
    let adds = c.loop-number.lines in
    let next = c.add_in_order.new.lines in
    let new = c.add_in_order.new.so_far.changes in
    let (so_far, seen, plans) = c.loop-number.invariant in
    let low : number < length edits = omega (arith, c.loop-number-test.true, c.min-end.ensures) in
    let one : suc number ≡ number + 1 = omega arith in
    let alone : All (λ y. LeavesAlone y o) outlines =
    subst (All (λ y. LeavesAlone y o)) c.as_slice.ensures.value
    (c.keep_alone.ensures.alone c.if-not-keep_alone.false) in
    let here : IsSeen c.keep_alone.new.self o = c.keep_alone.ensures.seen c.if-not-keep_alone.false in
    let still : All (IsSeen c.keep_alone.new.self) outlines =
    All-weaker (IsSeen c.loop-number.keys) (IsSeen c.keep_alone.new.self) c.keep_alone.ensures.others outlines seen in
    let pushed = c.add_in_order.ensures.outlines c.if-not-add_in_order.false in
    let makes : MakesInRunHere now x (outlined o) change made.line =
    subst (λ a. MakesInRunHere now x a change made.line) (sym c.of-outline.ensures)
    c.in-Some-change_in_run.ensures.made in
    let placed =
    placed_of_kind c.keep_alone.new.self outlines now changes o (change_of change).at still here in
    let longer : AreMadeTo edits first (suc number) now (outlines ++ o ∷ []) new next =
    elim (c.add_in_order.ensures.added c.if-not-add_in_order.false) [
      | inl behind ↦
          subst (λ (cs : List TextChange). AreMadeTo edits first (suc number) now (outlines ++ o ∷ []) cs next)
          (sym behind.changes_are)
          (more_changes edits first number now outlines changes adds next x x o change made.line so_far low
          (sym c.index-edits-number.is) makes alone behind.beside placed behind.kept behind.ends)
      | inr (sure, inr (inl follows)) ↦
          more_following edits first number now outlines changes new adds next x x o change made.line so_far low
          (sym c.index-edits-number.is) makes alone placed follows
      | inr (sure, inr (inr before)) ↦
          more_before edits first number now outlines changes new adds next x x o change made.line so_far low
          (sym c.index-edits-number.is) makes alone placed before
      | inr (sure, inl ahead) ↦
          more_ahead edits first number now outlines changes new adds next x x o change made.line so_far low
          (sym c.index-edits-number.is) makes alone placed ahead
    ] in (
      subst₂ (λ (n : ℕ) (os : List Outline). AreMadeTo edits first n now os new next) one (sym pushed) longer,
      subst (All (IsSeen c.keep_alone.new.self)) (sym pushed)
          (more_seen (IsSeen c.loop-number.keys) (IsSeen c.keep_alone.new.self) outlines o
          c.keep_alone.ensures.others here seen),
      c.change_in_run.ensures.planner ∙ c.again.ensures.planner ∙ plans,
    )
