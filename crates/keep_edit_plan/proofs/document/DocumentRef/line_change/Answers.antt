use Rattle.std.proofs.Common.{◌≡◌, ◌-◌, ◌≤◌, length, sym, ap, ◌∙◌, subst, arith, slice_get, Some}
use Rattle.keep_syntax.specs.Tree.{Document, value_depth}
use Rattle.keep_path.specs.Path.{key}
use Rattle.keep_path.specs.Step.{part_of}
use Rattle.keep_meaning.specs.OtherValues.{totals_of}
use Rattle.keep_edit_spec.specs.Edits.{edited_document, insert}
use Rattle.keep_edit_spec.proofs.Shared.{insert_adds_value}
use Rattle.keep_edit_plan.specs.IndexChanges.{IsIndexChange}
use Rattle.keep_edit_plan.proofs.AnswerLaws.{seen, tree_is}
use Rattle.keep_edit_plan.proofs.LineChangeLaws.{body_spot, last_line_changed, line_changed}
use Rattle.keep_edit_plan.proofs.LineValueLaws.{line_value_added}
use Rattle.keep_edit_plan.proofs.document.DocumentRef.line_change.Goals as goal
use Rattle.keep_edit_plan.proofs.document.DocumentRef.line_change.Goals.{else-is_last, then-is_last}

pub line_numbers-line-requires : goal.line_numbers-line-requires
line_numbers-line-requires c =
    let (s, read, (v, value, there)) = c.requires in
    let h = seen c.self.view_is c.self.invariant in
    let spot =
    body_spot _ _ _ c.args.path.now s v c.args.value.now c.args.insertion h read value there c.len.ensures.utf8 _
    c.in-AfterBody.is in
    (s, read, (_, _, spot))

-- nothing is in the value
pub returns-then-depth-eq0 : goal.returns-then-depth-eq0
returns-then-depth-eq0 c = λ s read v value there.
    let new : Document = edited_document s (insert c.args.path.now v) in
    let h = seen c.self.view_is c.self.invariant in
    let spot =
    body_spot _ _ _ c.args.path.now s v c.args.value.now c.args.insertion h read value there c.len.ensures.utf8 _
    c.in-AfterBody.is in
    let step : slice_get c.args.path.now c.args.insertion.from ≡ Some (key c.as_str-key.result.now) =
    sym c.in_ok-key.ensures ∙ ap (λ x. Some (part_of x)) c.in-Key.is
    ∙ ap (λ x. Some (key x)) (sym c.as_str-key.ensures.value) in
    let few : length c.args.path.now - c.args.insertion.from ≡ 1 =
    omega (arith, c.if-saturating_sub-ne1.false, c.saturating_sub.ensures, c.len.ensures.count) in
    let flat : value_depth v ≤ 0 = omega (arith, c.if-depth-eq0.true, c.depth.ensures v value) in
    elim c.if-is_last.branch [
      | then-is_last w ↦ subst (IsIndexChange s new) (sym w.result-is)
          (last_line_changed _ _ _ c.args.path.now s v c.args.value.now c.args.insertion h read value there
          c.len.ensures.utf8 _ c.in-AfterBody.is
          c.as_str-key.result step few c.in_ok-parent.parent (sym c.in_ok-parent.ensures.found) _
          (c.line_numbers-line.ensures s read _ _ spot) flat _ (c.kind-kind.ensures v value)
          (omega (arith, w.if-is_last.true, c.statement_count.ensures)))
      | else-is_last w ↦ subst (IsIndexChange s new) (sym w.result-is)
          (line_changed _ _ _ c.args.path.now s v c.args.value.now c.args.insertion h read value there
          c.len.ensures.utf8 _ c.in-AfterBody.is
          c.as_str-key.result step few c.in_ok-parent.parent (sym c.in_ok-parent.ensures.found) _
          (c.line_numbers-line.ensures s read _ _ spot) flat _ (c.kind-kind.ensures v value))
    ]

-- something may be
pub returns : goal.returns
returns c = λ s read v value there.
    let h = seen c.self.view_is c.self.invariant in
    let spot =
    body_spot _ _ _ c.args.path.now s v c.args.value.now c.args.insertion h read value there c.len.ensures.utf8 _
    c.in-AfterBody.is in
    let step : slice_get c.args.path.now c.args.insertion.from ≡ Some (key c.as_str-key.result.now) =
    sym c.in_ok-key.ensures ∙ ap (λ x. Some (part_of x)) c.in-Key.is
    ∙ ap (λ x. Some (key x)) (sym c.as_str-key.ensures.value) in
    let few : length c.args.path.now - c.args.insertion.from ≡ 1 =
    omega (arith, c.if-saturating_sub-ne1.false, c.saturating_sub.ensures, c.len.ensures.count) in
    line_value_added insert_adds_value _ _ _ c.args.path.now s v c.args.value c.args.insertion h read value there
    c.len.ensures.utf8 _ c.in-AfterBody.is
    c.as_str-key.result step few c.in_ok-parent.parent (sym c.in_ok-parent.ensures.found) _
    (c.line_numbers-line.ensures s read _ _ spot)
    c.totals_of-totals.result (c.totals_of-totals.ensures h.tree h.is ∙ ap totals_of (tree_is _ _ _ s h read))
