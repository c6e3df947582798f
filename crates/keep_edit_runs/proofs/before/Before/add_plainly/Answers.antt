-- The others leave the edit alone, it makes its change, and its place is kept; then it is added behind all others where
-- its change begins. If its keys make a table, others see it as the insert of the path that leads there.
use Rattle.std.proofs.Common.{◌≡◌, ◌∙◌, Option, ap, ap₂, subst, subst₂, sym}
use Rattle.std.specs.Prelude.{IfSome}
use Rattle.keep_edit_plan.specs.Reading.{ProfiledText}
use Rattle.keep_edit_plan.specs.TextEdits.{change_of}
use Rattle.keep_edit_plan.specs.declared.edit.Edit.{Edit}
use Rattle.keep_edit_runs.specs.KindsRun.{IsPlacedAmong, with_paths}
use Rattle.keep_edit_runs.specs.MoreKeys.{MakesTable}
use Rattle.keep_edit_runs.specs.Runs.{IsSeenAs, MakesInRunHere, outline}
use Rattle.keep_edit_runs.specs.declared.at_once.AtOnce.{AtOnce}
use Rattle.keep_edit_runs.specs.declared.kinds_run.KindsRun.{KindsRun}
use Rattle.keep_edit_runs.specs.declared.more_keys.NewTable.{NewTable}
use Rattle.keep_edit_runs.specs.declared.opened.OpenValues.{OpenValues}
use Rattle.keep_edit_runs.specs.declared.outline.SeenAs.{SeenAs}
use Rattle.keep_edit_runs.proofs.KeysLetIn.{made_known}
use Rattle.keep_edit_runs.proofs.MoreKeySteps.{behind_as, gone_as, outlines_as, run_last}
use Rattle.keep_edit_runs.proofs.SameRuns.{alone_as, on_planned, planned}
use Rattle.keep_edit_runs.proofs.before.Before.add_plainly.Goals as goal

-- the run when the edit's change is planned
then_is : (old left : KindsRun) (opened : OpenValues) (planner : ProfiledText)
    → left ≡ with_paths old old.paths left.left
    → record left { opened = opened; planner = planner } ≡ planned old opened planner left.left
then_is old left opened planner is = ap (λ (r : KindsRun). record r { opened = opened; planner = planner }) is

pub returns-clause-added : goal.returns-clause-added
returns-clause-added c = λ yes.
    let now = c.args.self.now in
    let x = c.args.edit.now in
    let old = c.args.run.now in
    let left = c.is_left_alone.new.self in
    let rest = c.is_left_alone.ensures.rest in
    let opened = c.change_in_run.new.opened in
    let planner = c.change_in_run.new.planner in
    let then : KindsRun = record left { opened = opened; planner = planner } in
    let new = c.add_last.new.run in
    let o = c.of-outline.result in
    let made = c.in-Some.made in
    let is = then_is old left opened planner rest in
    let added = c.add_last.ensures.added yes in
    record {
      outline = o;
      change = made.change;
      line = made.line;
      makes = subst (λ a. MakesInRunHere now x a made.change made.line) (sym c.of-outline.ensures)
          c.in-Some.ensures.made;
      alone = c.is_left_alone.ensures.alone c.if-not-is_left_alone.false;
      placed = subst (λ (s : AtOnce). IsPlacedAmong now s.changes o (change_of made.change).at)
          (ap (λ (r : KindsRun). r.so_far) rest) (c.keeps_place_in.ensures c.if-not-keeps_place_in.false);
      added = behind_as now old then new opened planner left.left is o made.change made.line added;
      outlines = outlines_as now old then new opened planner left.left is o made.change made.line
          added;
      gone = gone_as now old then new opened planner left.left is o made.change made.line added;
      makes_table = λ t table.
          let (given, (own, (seen, last))) =
          subst (λ (result : Option NewTable).
          IfSome result (MakesTable x c.seen_among_kinds-seen.result made.line)) table c.new_table.ensures in (
            subst₂ (λ (y : Edit) (how : SeenAs). IsSeenAs now y how) own seen c.seen_among_kinds-seen.ensures,
            (last, (given, (own, c.of-outline.ensures ∙ ap₂ outline own seen))),
          );
    }

pub returns-clause-table : goal.returns-clause-table
returns-clause-table c = λ yes.
    made_known c.args.self.now c.args.run.now c.add_last.new.run c.args.edit.now c.new_table.result
    (returns-clause-added c yes)

pub returns-clause-run : goal.returns-clause-run
returns-clause-run c = λ yes.
    let now = c.args.self.now in
    let old = c.args.run.now in
    let left = c.is_left_alone.new.self in
    let rest = c.is_left_alone.ensures.rest in
    let opened = c.change_in_run.new.opened in
    let planner = c.change_in_run.new.planner in
    let then : KindsRun = record left { opened = opened; planner = planner } in
    let o = c.of-outline.result in
    let made = c.in-Some.made in
    let is = then_is old left opened planner rest in
    let (run, none) = c.requires.run in
    run_last now old then c.add_last.new.run opened planner left.left is o made.change made.line
    (c.add_last.ensures.added yes) c.args.edit.now
    (on_planned old then opened planner left.left is now run
    (c.change_in_run.ensures.planner ∙ ap (λ (r : KindsRun). r.planner) rest ∙ run.planner))
    (alone_as old then opened planner left.left is o
    (c.is_left_alone.ensures.alone c.if-not-is_left_alone.false)) none
