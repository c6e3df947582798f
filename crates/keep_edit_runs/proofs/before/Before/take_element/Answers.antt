-- What the edit takes is put beside the changes of the run; its edits stay as they are, as does what is at the end of
-- the text.
use Rattle.std.proofs.Common.{◌∙◌, All, List, ap, subst, sym}
use Rattle.keep_edit_spec.specs.TextChanges.{IsBeside, with_change}
use Rattle.keep_edit_spec.proofs.Shared.{all_with}
use Rattle.keep_edit_plan.specs.Reading.{ProfiledText}
use Rattle.keep_edit_plan.specs.TextEdits.{change_of}
use Rattle.keep_edit_runs.specs.GoneBetween.{AreElsewhere}
use Rattle.keep_edit_runs.specs.Newlines.{IsNewlineOf, LeavesHere}
use Rattle.keep_edit_runs.specs.SeenPaths.{IsSeen}
use Rattle.keep_edit_runs.specs.declared.at_once.AtOnce.{AtOnce}
use Rattle.keep_edit_runs.specs.declared.kinds_run.KindsRun.{KindsRun}
use Rattle.keep_edit_runs.specs.declared.outline.Outline.{Outline}
use Rattle.keep_edit_runs.proofs.ElementsAlone.{AreElementsAlone}
use Rattle.keep_edit_runs.proofs.before.Before.take_element.Goals as goal

pub returns-clause-taken : goal.returns-clause-taken
returns-clause-taken c = λ added.
    let old = c.args.run.now in
    let newline = subst (λ (d : ProfiledText). IsNewlineOf d c.self.inside.newline) c.self.view_is c.self.invariant.1 in
    let found = c.in-Some.ensures.found in
    let t = change_of c.in-Some.change in
    let same = c.element_by.ensures.edits in
    let (beside, changes) = c.add_change.ensures.changes added in
    let outlines = c.add_change.ensures.outlines ∙ ap (λ (s : AtOnce). s.outlines.items) same in
    record {
      takes = record {
        change = c.in-Some.change;
        removes = found.removes;
        arrays = found.arrays;
        beside = subst (λ (s : AtOnce). All (λ d. IsBeside d t) s.changes) same beside;
        changes = changes ∙ ap (λ (s : AtOnce). with_change s.changes t) same;
        newline = λ yes.
            let (before, its) = c.add_change.ensures.newline added yes in
            (sym (ap (λ (s : AtOnce). s.leave_newline) same) ∙ before, newline.changes t its);
      };
      elsewhere = subst (AreElsewhere c.element_by.new.run.gone.arrays.items) (sym outlines) found.elsewhere;
      at_end = found.tail;
      lets = found.lets;
      outlines = outlines;
      lines = ap (λ (r : KindsRun). r.lines) found.rest;
      tail = c.element_by.ensures.tail;
    }

pub returns-clause-run : goal.returns-clause-run
returns-clause-run c = λ added.
    let now = c.args.self.now in
    let old = c.args.run.now in
    let newline = subst (λ (d : ProfiledText). IsNewlineOf d c.self.inside.newline) c.self.view_is c.self.invariant.1 in
    let run = c.requires.run in
    let found = c.in-Some.ensures.found in
    let t = change_of c.in-Some.change in
    let same = c.element_by.ensures.edits in
    let (beside, changes) = c.add_change.ensures.changes added in
    record {
      seen = record {
        edits = subst (All (IsSeen c.element_by.new.run.paths)) (sym c.add_change.ensures.outlines) found.seen.edits;
        arrays = found.seen.arrays;
        tail = found.seen.tail;
        elements = subst (λ (l : List Outline).
            AreElementsAlone l c.element_by.new.run.tail.outlines.items c.element_by.new.run.gone.arrays.items)
            (sym c.add_change.ensures.outlines) found.seen.elements;
      };
      newline = λ yes.
          let (before, its) = c.add_change.ensures.newline added yes in
          subst (All (LeavesHere now)) (sym (changes ∙ ap (λ (s : AtOnce). with_change s.changes t) same))
          (all_with (LeavesHere now) old.so_far.changes t
          (run.newline (sym (ap (λ (s : AtOnce). s.leave_newline) same) ∙ before)) (newline.changes t its));
      planner = ap (λ (r : KindsRun). r.planner) found.rest ∙ run.planner;
    }
