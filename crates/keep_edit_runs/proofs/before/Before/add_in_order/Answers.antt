use Rattle.std.proofs.Common.{◌∙◌, All, subst, sym}
use Rattle.keep_edit_spec.proofs.Shared.{all_with}
use Rattle.keep_edit_plan.specs.Reading.{ProfiledText}
use Rattle.keep_edit_plan.specs.TextEdits.{change_of}
use Rattle.keep_edit_runs.specs.Newlines.{IsNewlineOf, LeavesHere}
use Rattle.keep_edit_runs.proofs.AheadSteps.{each_ahead}
use Rattle.keep_edit_runs.proofs.InPlaceSteps.{each_before}
use Rattle.keep_edit_runs.proofs.before.Before.add_in_order.Goals as goal

pub returns-then-keep_ahead-clause-newline : goal.returns-then-keep_ahead-clause-newline
returns-then-keep_ahead-clause-newline c = λ added yes.
    let newline = subst (λ (d : ProfiledText). IsNewlineOf d c.self.inside.newline) c.self.view_is c.self.invariant.1 in
    let its = newline.changes (change_of c.args.made.change) (c.add_ahead.ensures.left added) in
    let put = c.add_ahead.ensures.changes added in (
      sym c.add_ahead.ensures.newline ∙ yes,
      λ all.
          each_ahead (LeavesHere c.args.self.now) c.args.so_far.now.changes c.add_ahead.new.self.changes
          (change_of c.args.made.change) put all its,
    )

pub returns-then-keep_line-clause-newline : goal.returns-then-keep_line-clause-newline
returns-then-keep_line-clause-newline c = λ added yes.
    let newline = subst (λ (d : ProfiledText). IsNewlineOf d c.self.inside.newline) c.self.view_is c.self.invariant.1 in
    let its = newline.changes (change_of c.args.made.change) (c.add_before.ensures.left added) in
    let put = c.add_before.ensures.changes added in (
      sym c.add_before.ensures.newline ∙ yes,
      λ all.
          each_before (LeavesHere c.args.self.now) c.args.so_far.now.changes c.add_before.new.self.changes
          (change_of c.args.made.change) put all its,
    )

pub returns-then-keep_line-2-clause-newline : goal.returns-then-keep_line-2-clause-newline
returns-then-keep_line-2-clause-newline c = λ added yes.
    let newline = subst (λ (d : ProfiledText). IsNewlineOf d c.self.inside.newline) c.self.view_is c.self.invariant.1 in
    let (before, its) = c.add.ensures.newline added yes in
    let (beside, is) = c.add.ensures.changes added in (
      before,
      λ all. subst (All (LeavesHere c.args.self.now)) (sym is)
          (all_with (LeavesHere c.args.self.now) c.args.so_far.now.changes (change_of c.args.made.change) all
          (newline.changes (change_of c.args.made.change) its)),
    )
