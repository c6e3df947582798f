-- What is done again may come before what is at the end of the text, and the other edits allow it. Its change comes in
-- the place of one of theirs, and its paths are known then.
use Rattle.std.proofs.Common.{◌≡◌, ◌⊎◌, ◌∙◌, ◌++◌, [], All, List, ap, false, get_or, inl, inr, subst, sym, true}
use Rattle.std.proofs.lemmas.List.Elements.{All-append, All-nil, All-weaker}
use Rattle.keep_edit_plan.specs.TextEdits.{change_of}
use Rattle.keep_edit_runs.specs.Again.{IsPutAgain, LetsAgain, edit_of, outlines_of}
use Rattle.keep_edit_runs.specs.KindsRun.{IsRunOn}
use Rattle.keep_edit_runs.specs.Newlines.{LeavesHere}
use Rattle.keep_edit_runs.specs.Runs.{LeavesAlone}
use Rattle.keep_edit_runs.specs.SeenPaths.{IsSeen}
use Rattle.keep_edit_runs.specs.declared.added_lines.AddedLines.{AddedLines}
use Rattle.keep_edit_runs.specs.declared.at_once.AtOnce.{AtOnce}
use Rattle.keep_edit_runs.specs.declared.kinds_run.KindsRun.{KindsRun}
use Rattle.keep_edit_runs.specs.declared.outline.Outline.{Outline}
use Rattle.keep_edit_runs.proofs.AgainSteps.{each_put}
use Rattle.keep_edit_runs.proofs.ElementsAlone.{AreElementsAlone, alone_before}
use Rattle.keep_edit_runs.proofs.SeenPathLaws.{arrays_still}
use Rattle.keep_edit_runs.proofs.kinds_run.KindsRun.put_again.Goals as goal
use Rattle.keep_edit_runs.proofs.kinds_run.KindsRun.put_again.Goals.{else-lets_again, then-lets_again}

-- where nothing more is seen, or nothing is at the end
none_apart : (tail more : List Outline) → (more ≡ []) ⊎ (tail ≡ [])
    → All (λ o. All (λ y. LeavesAlone y o) tail) more
none_apart tail more (inl none) =
    subst (All (λ (o : Outline). All (λ y. LeavesAlone y o) tail)) (sym none)
    (All-nil (λ (o : Outline). All (λ y. LeavesAlone y o) tail))
none_apart tail more (inr none) = λ k d lt.
    subst (All (λ (y : Outline). LeavesAlone y (get_or more k d))) (sym none)
    (All-nil (λ (y : Outline). LeavesAlone y (get_or more k d)))

pub returns-then-allow_again-clause-done : goal.returns-then-allow_again-clause-done
returns-then-allow_again-clause-done c = λ done.
    let a = c.args.again in
    let new = c.put_again.new.self in
    elim c.if-lets_again.branch [
      | then-lets_again w ↦
          let same = ap (λ (r : KindsRun). r.so_far) w.self-is in
          record {
            allowed = w.allow_again.ensures.allowed (sym w.value-is ∙ c.if-allow_again.true);
            lets = subst (λ (l : AddedLines). LetsAgain l a) (ap (λ (r : KindsRun). r.lines) w.self-is)
                (c.put_again.ensures.lines done);
            before = c.lets_again.ensures.before w.if-lets_again.true;
            put = subst (λ (s : AtOnce). IsPutAgain a s.changes new.changes) same (c.put_again.ensures.changes done);
            outlines = c.put_again.ensures.outlines done ∙ ap (λ (s : AtOnce). s.outlines.items ++ outlines_of a) same;
            lines = ap (λ (r : KindsRun). r.lines) w.self-is;
            gone = ap (λ (r : KindsRun). r.gone) w.self-is;
            tail = ap (λ (r : KindsRun). r.tail) w.self-is;
          }
      | else-lets_again w ↦ absurd
          (let both : false ≡ true = sym w.if-lets_again.false ∙ sym w.value-is ∙ c.if-allow_again.true in cc)
    ]

pub returns-then-allow_again-clause-run : goal.returns-then-allow_again-clause-run
returns-then-allow_again-clause-run c = λ now newline run done.
    let a = c.args.again in
    let old = c.args.self.now in
    let new = c.put_again.new.self in
    elim c.if-lets_again.branch [
      | then-lets_again w ↦
          let seen_then = IsSeen old.paths in
          let paths = w.allow_again.new.self in
          let seen_now = IsSeen paths in
          let same = ap (λ (r : KindsRun). r.so_far) w.self-is in
          let allowed = sym w.value-is ∙ c.if-allow_again.true in
          subst (λ (r : KindsRun). IsRunOn now (record r { so_far = new })) (sym w.self-is) (record {
            seen = record {
              edits = subst (All seen_now)
                  (sym (c.put_again.ensures.outlines done
                  ∙ ap (λ (s : AtOnce). s.outlines.items ++ outlines_of a) same))
                  (All-append seen_now old.so_far.outlines.items (outlines_of a)
                  (All-weaker seen_then seen_now w.allow_again.ensures.others old.so_far.outlines.items run.seen.edits)
                  (w.allow_again.ensures.seen allowed));
              arrays = arrays_still old.paths paths w.allow_again.ensures.others old.gone.arrays.items run.seen.arrays;
              tail = run.seen.tail;
              elements = subst (λ (l : List Outline).
                  AreElementsAlone l old.tail.outlines.items old.gone.arrays.items)
                  (sym (c.put_again.ensures.outlines done
                  ∙ ap (λ (s : AtOnce). s.outlines.items ++ outlines_of a) same))
                  (alone_before old.so_far.outlines.items old.tail.outlines.items old.gone.arrays.items
                  run.seen.elements (outlines_of a)
                  (none_apart old.tail.outlines.items (outlines_of a)
                  (c.lets_again.ensures.none w.if-lets_again.true)));
            };
            newline = λ yes.
                let (before, its) = c.put_again.ensures.newline done yes in
                each_put (LeavesHere now) a old.so_far.changes new.changes
                (subst (λ (s : AtOnce). IsPutAgain a s.changes new.changes) same (c.put_again.ensures.changes done))
                (run.newline (sym (ap (λ (s : AtOnce). s.leave_newline) same) ∙ before))
                (newline.changes (change_of (edit_of a)) its);
            planner = run.planner;
          })
      | else-lets_again w ↦ absurd
          (let both : false ≡ true = sym w.if-lets_again.false ∙ sym w.value-is ∙ c.if-allow_again.true in cc)
    ]
