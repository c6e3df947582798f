-- The line ends a body and is kept behind all others where it begins, which one of the edits frees. Of the run only how
-- many pairs are left has changed when the edit's paths, its line and its change are added. So what is known of it then
-- is known of the run before.
use Rattle.std.proofs.Common.{◌≡◌, ◌∙◌, ◌++◌, ◌∷◌, [], All, Some, ap, inl, inr, length, rules, subst, subst₂, sym, true}
use Rattle.keep_edit_spec.specs.Edits as law
use Rattle.keep_edit_spec.specs.declared.line_kind.LineKind.TheVariants.{LastInBody}
use Rattle.keep_edit_spec.proofs.Shared.{all_with}
use Rattle.keep_edit_plan.specs.Reading.{ProfiledText}
use Rattle.keep_edit_plan.specs.TextEdits.{change_of}
use Rattle.keep_edit_runs.specs.KindsRun.{LetsChange}
use Rattle.keep_edit_runs.specs.Newlines.{IsNewlineOf, LeavesBy, LeavesHere}
use Rattle.keep_edit_runs.specs.Runs.{IsAddedBehind, no_value, outlined}
use Rattle.keep_edit_runs.specs.SeenPaths.{IsSeen}
use Rattle.keep_edit_runs.specs.declared.kinds_run.KindsRun.{KindsRun}
use Rattle.keep_edit_runs.specs.declared.outline.Outline.{Outline}
use Rattle.keep_edit_runs.specs.declared.tail.Tail.{Tail}
use Rattle.keep_edit_runs.proofs.NewlineSteps.{lets_here}
use Rattle.keep_edit_runs.proofs.SameRuns.{blocks_in}
use Rattle.keep_edit_runs.proofs.SeenLaws.{was_added}
use Rattle.keep_edit_runs.proofs.before.Before.add_in_place.Goals as goal
use Rattle.keep_edit_runs.proofs.before.Before.add_in_place.Goals.{else-at-self-via-else-at-self}
use Rattle.keep_edit_runs.proofs.before.Before.add_in_place.Goals.{else-at-self-via-then-at-self+else-has_appended}

pub returns-then-keep_line-clause-added : goal.returns-then-keep_line-clause-added
returns-then-keep_line-clause-added c = λ added.
    let now = c.args.self.now in
    let old = c.args.run.now in
    let o = c.args.outline in
    let t = c.args.made.change in
    let line = c.args.made.line in
    let then = c.frees_place_in.new.run in
    let same = c.frees_place_in.ensures.rest in
    let freed = c.if-not-frees_place_in.false in
    let first = c.in-Insert-Some-LastInBody.field-0-0 in
    let paths = c.add.new.self in
    let lines = c.keep_line.new.self in
    let so_far = c.add-then-keep_line.new.self in
    let (beside, is) = c.add-then-keep_line.ensures.changes added in
    let last : line ≡ Some LastInBody = search rules in
    let o_is : outlined o ≡ law.insert first no_value = search rules in
    let newline = subst (λ (d : ProfiledText). IsNewlineOf d c.self.inside.newline) c.self.view_is c.self.invariant.1 in
    record {
      last = last;
      first = first;
      is = o_is;
      lets = lets_here now c.self.inside.newline newline (blocks_in old.tail) (length now.text) (outlined o) t
          (subst₂ (λ (l : Tail) (d : ProfiledText).
          LetsChange (LeavesBy c.self.inside.newline) (blocks_in l) (length d.text) (outlined o) t)
          (ap (λ (r : KindsRun). r.tail) same) c.self.view_is (c.lets_change.ensures c.if-not-lets_change.false));
      leave = c.frees_place_in.ensures.newline freed;
      leaves = newline.changes (change_of t) (c.is_left_by.ensures c.if-not-is_left_by.false);
      freed = c.frees_place_in.ensures.freed freed;
      none = c.frees_place_in.ensures.none freed;
      added = subst (λ (r : KindsRun).
          IsAddedBehind now.text r.lines r.so_far.changes o (change_of t) line lines so_far.changes) same (record {
            kept = c.keep_line.ensures c.if-keep_line.true;
            ends = λ kind here. elim c.else-at-self.branch [
              | else-at-self-via-then-at-self+else-has_appended w ↦ inr (w.has_appended.ensures w.if-has_appended.false)
              | else-at-self-via-else-at-self w ↦ inl
                  (λ ends. w.if-at-self.false (ends ∙ ap (λ (d : ProfiledText). length d.text) (sym c.self.view_is)))
            ];
            beside = beside;
            changes_are = is;
          });
      outlines = c.add-then-keep_line.ensures.outlines added
          ∙ ap (λ (r : KindsRun). r.so_far.outlines.items ++ o ∷ []) same;
      seen = was_added (IsSeen paths o) c.add.result c.add.ensures.seen
          (sym c.unwrap_or.ensures ∙ c.if-not-unwrap_or.false);
      others = subst (λ (r : KindsRun). (y : Outline) → IsSeen r.paths y → IsSeen paths y) same c.add.ensures.others;
      newline = subst (λ (r : KindsRun). so_far.leave_newline ≡ true → (r.so_far.leave_newline ≡ true)
          × (All (LeavesHere now) r.so_far.changes → All (LeavesHere now) so_far.changes)) same (λ yes.
          let (before, its) = c.add-then-keep_line.ensures.newline added yes in (
            before,
            λ all. subst (All (LeavesHere now)) (sym is)
                (all_with (LeavesHere now) then.so_far.changes (change_of t) all
                (newline.changes (change_of t) its)),
          ));
      rest = ap (λ (r : KindsRun). record r { so_far = so_far; lines = lines; paths = paths }) same;
    }
