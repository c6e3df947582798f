use Rattle.std.proofs.Common.{◌≡◌, ◌∙◌, All, ap, eqb-true, false, inl, inr, length, subst, sym, true}
use Rattle.std.specs.Prelude.{◌==◌}
use Rattle.std.proofs.lemmas.Bool.{and_parts}
use Rattle.keep_edit_spec.proofs.Shared.{all_with}
use Rattle.keep_edit_plan.specs.Reading.{ProfiledText}
use Rattle.keep_edit_plan.specs.TextEdits.{change_of}
use Rattle.keep_edit_runs.specs.Newlines.{IsNewlineOf, LeavesHere}
use Rattle.keep_edit_runs.specs.Runs.{IsKeptBehind}
use Rattle.keep_edit_runs.proofs.before.Before.add_behind.Goals as goal
use Rattle.keep_edit_runs.proofs.before.Before.add_behind.Goals.{else-eq, else-place-self-via-else-place-self}
use Rattle.keep_edit_runs.proofs.before.Before.add_behind.Goals.{else-place-self-via-then-place-self+else-has_appended}
use Rattle.keep_edit_runs.proofs.before.Before.add_behind.Goals.{else-is_left_by, then-eq, then-is_left_by}

pub returns-then-keep_behind-clause-added : goal.returns-then-keep_behind-clause-added
returns-then-keep_behind-clause-added c = λ added.
    let newline = subst (λ (d : ProfiledText). IsNewlineOf d c.self.inside.newline) c.self.view_is c.self.invariant.1 in
    let line = c.in-Some.line in
    let (beside, is) = c.add.ensures.changes added in
    elim c.if-is_left_by.branch [
      | then-is_left_by w ↦ elim c.if-eq.branch [
        | then-eq u ↦ record {
          line = line;
          alone = c.in-Some.ensures;
          ends = elim c.else-place-self.branch [
            | else-place-self-via-then-place-self+else-has_appended v ↦ inr
                (v.has_appended.ensures v.if-has_appended.false)
            | else-place-self-via-else-place-self v ↦ inl
                (λ same. v.if-place-self.false
                (same ∙ ap (λ (now : ProfiledText). length now.text) (sym c.self.view_is)))
          ];
          place = eqb-true line.place.start c.args.place.start
              (and_parts (line.place.start == c.args.place.start) (line.place.end == c.args.place.end)
              (sym c.eq.ensures ∙ u.if-eq.true)).0;
          kept = subst (IsKeptBehind c.args.lines.now c.args.so_far.now.changes c.args.outline c.args.place.start)
              (sym w.lines-is) (w.keep_behind.ensures (sym w.value-is ∙ c.if-keep_behind.true));
          leaves = newline.changes (change_of line) (u.is_left_by.ensures (sym u.value-is ∙ w.if-is_left_by.true));
          beside = beside;
          changes_are = is;
        }
        | else-eq u ↦ absurd
            (let both : false ≡ true = sym u.if-eq.false ∙ sym u.value-is ∙ w.if-is_left_by.true in cc)
      ]
      | else-is_left_by w ↦ absurd
          (let both : false ≡ true = sym w.if-is_left_by.false ∙ sym w.value-is ∙ c.if-keep_behind.true in cc)
    ]

pub returns-then-keep_behind-clause-newline : goal.returns-then-keep_behind-clause-newline
returns-then-keep_behind-clause-newline c = λ added yes.
    let now = c.args.self.now in
    let newline = subst (λ (d : ProfiledText). IsNewlineOf d c.self.inside.newline) c.self.view_is c.self.invariant.1 in
    let line = change_of c.in-Some.line in
    let (before, its) = c.add.ensures.newline added yes in
    let (beside, is) = c.add.ensures.changes added in (
      before,
      λ all. subst (All (LeavesHere now)) (sym is)
          (all_with (LeavesHere now) c.args.so_far.now.changes line all (newline.changes line its)),
    )
