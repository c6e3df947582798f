-- What the edit does it does to the run as it was, whatever was opened and planned before.
use Rattle.std.proofs.Common.{◌∙◌, inl, inr, subst, sym}
use Rattle.keep_edit_plan.specs.Reading.{ProfiledText}
use Rattle.keep_edit_runs.specs.KindsRun.{AddsAny, IsRunOn, IsUnchanged}
use Rattle.keep_edit_runs.specs.Newlines.{IsNewlineOf}
use Rattle.keep_edit_runs.specs.declared.kinds_run.KindsRun.{KindsRun}
use Rattle.keep_edit_runs.proofs.NewlineSteps.{does_here}
use Rattle.keep_edit_runs.proofs.SameRuns.{added_as, unchanged_as}
use Rattle.keep_edit_runs.proofs.before.Before.goes_on.Goals as goal
use Rattle.keep_edit_runs.proofs.before.Before.goes_on.Goals.{else-is_empty, then-is_empty+in_default}

pub returns-then-is_of_element-clause-done : goal.returns-then-is_of_element-clause-done
returns-then-is_of_element-clause-done c = λ taken. record {
  edit = c.index-edits-number.result;
  here = sym c.index-edits-number.is;
  by = inr (inr (c.take_element.ensures.taken taken));
}

pub returns-in-Some-clause-done : goal.returns-in-Some-clause-done
returns-in-Some-clause-done c = λ done.
    let newline = subst (λ (d : ProfiledText). IsNewlineOf d c.self.inside.newline) c.self.view_is c.self.invariant.1 in
    let does =
    does_here c.args.self.now c.self.inside.newline newline _ c.in-Some.again c.put_again.new.self
    (c.put_again.ensures.done done) in
    record {
      edit = c.index-edits-number.result;
      here = sym c.index-edits-number.is;
      by = inr (inl (record {
        again = c.in-Some.again;
        is = c.in-Some.ensures.again;
        none = c.is_empty.ensures.0 c.if-is_empty.true;
        does = record {
          allowed = does.allowed;
          lets = does.lets;
          before = does.before;
          put = does.put;
          outlines = does.outlines;
          lines = does.lines;
          gone = does.gone;
          tail = does.tail;
        };
      }));
    }

pub returns-in-Some-clause-run : goal.returns-in-Some-clause-run
returns-in-Some-clause-run c = λ done.
    let run = c.requires.run in
    let newline = subst (λ (d : ProfiledText). IsNewlineOf d c.self.inside.newline) c.self.view_is c.self.invariant.1 in
    c.put_again.ensures.run c.args.self.now newline
    (record {
      seen = record {
        edits = run.seen.edits;
        arrays = run.seen.arrays;
        tail = run.seen.tail;
        elements = run.seen.elements;
      };
      newline = run.newline;
      planner = c.again-again.ensures.planner ∙ run.planner;
    }) done

pub returns-in-Some-clause-refused : goal.returns-in-Some-clause-refused
returns-in-Some-clause-refused c = λ refused.
    let same = c.put_again.ensures.refused refused in
    record {
      changes = same.changes;
      tail = same.tail;
    }

pub add_to-requires-clause-run : goal.add_to-requires-clause-run
add_to-requires-clause-run c =
    let run = c.requires.run in
    elim c.if-is_empty.branch [
      | then-is_empty+in_default w ↦
          subst (IsRunOn c.args.self.now) (sym w.run-is) (record {
            seen = record {
              edits = run.seen.edits;
              arrays = run.seen.arrays;
              tail = run.seen.tail;
              elements = run.seen.elements;
            };
            newline = run.newline;
            planner = w.again-again.ensures.planner ∙ run.planner;
          })
      | else-is_empty w ↦ subst (IsRunOn c.args.self.now) (sym w.run-is) run
    ]

pub returns-clause-done : goal.returns-clause-done
returns-clause-done c = λ added.
    let now = c.args.self.now in
    let x = c.index-edits-number.result in
    let old = c.args.run.now in
    let new = c.add_to.new.run in
    let adds = c.add_to.ensures.added added in
    record {
      edit = x;
      here = sym c.index-edits-number.is;
      by = inl (elim c.if-is_empty.branch [
        | then-is_empty+in_default w ↦
            added_as old c.if-is_empty.run w.again-again.new.opened w.again-again.new.planner old.left
            w.run-is now x new adds
        | else-is_empty w ↦ subst (λ (run : KindsRun). AddsAny now run x new) w.run-is adds
      ]);
    }

pub returns-clause-refused : goal.returns-clause-refused
returns-clause-refused c = λ refused.
    let new = c.add_to.new.run in
    let same = c.add_to.ensures.refused refused in
    elim c.if-is_empty.branch [
      | then-is_empty+in_default w ↦
          unchanged_as c.args.run.now c.if-is_empty.run w.again-again.new.opened w.again-again.new.planner
          c.args.run.now.left w.run-is new same
      | else-is_empty w ↦ subst (λ (run : KindsRun). IsUnchanged run new) w.run-is same
    ]
