-- The header is the last of those whose lines come with the text, and the last block of the tail.
use Rattle.std.proofs.Common.{◌≡◌, ◌∙◌, ap, false, subst, sym, true}
use Rattle.keep_edit_plan.specs.Headers.{key_texts}
use Rattle.keep_edit_runs.specs.AddedLines.{IsHeaderLast}
use Rattle.keep_edit_runs.specs.KindsRun.{with_tail}
use Rattle.keep_edit_runs.specs.Newlines.{LeavesEndBy}
use Rattle.keep_edit_runs.specs.Tail.{HeaderIsAdded, IsOutlineAdded}
use Rattle.keep_edit_runs.specs.declared.added_lines.AddedLines.{AddedLines}
use Rattle.keep_edit_runs.specs.declared.kinds_run.KindsRun.{KindsRun}
use Rattle.keep_edit_runs.specs.declared.tail.Tail.{Tail}
use Rattle.keep_edit_runs.proofs.kinds_run.KindsRun.append.Goals as goal
use Rattle.keep_edit_runs.proofs.kinds_run.KindsRun.append.Goals.{else-is_left_at_end, then-is_left_at_end}

pub returns-then-keep_last-clause-appended : goal.returns-then-keep_last-clause-appended
returns-then-keep_last-clause-appended c = λ added.
    let old = c.args.self.now in
    let keys = c.args.keys in
    let tail = c.add.new.self in
    elim c.if-is_left_at_end.branch [
      | then-is_left_at_end w ↦
          let lines : c.if-is_left_at_end.self.lines ≡ w.keep_last.new.self =
          ap (λ (r : KindsRun). r.lines) w.self-is in
          let same : c.if-is_left_at_end.self.tail ≡ old.tail = ap (λ (r : KindsRun). r.tail) w.self-is in
          record {
            leaves = subst (LeavesEndBy c.args.newline) c.as_str.ensures.value
                (c.is_left_at_end.ensures w.if-is_left_at_end.true);
            lines = subst (IsHeaderLast old.lines (key_texts keys.now)) (sym lines)
                (w.keep_last.ensures (sym w.value-is ∙ c.if-keep_last.true));
            added = subst (λ (l : Tail). HeaderIsAdded l keys c.args.change.new tail) same
                (c.add.ensures.added added);
            outlines = subst (λ (l : Tail). IsOutlineAdded l c.args.outline tail) same
                (c.add.ensures.outlines added);
            rest = ap (λ (r : KindsRun). record r { tail = tail }) w.self-is
                ∙ ap (λ (l : AddedLines). with_tail old l tail) (sym lines);
          }
      | else-is_left_at_end w ↦ absurd
          (let both : false ≡ true = sym w.if-is_left_at_end.false ∙ sym w.value-is ∙ c.if-keep_last.true in cc)
    ]
