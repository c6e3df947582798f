use Rattle.std.proofs.Common.{◌+◌, sym, ◌∙◌, ap, arith}
use Rattle.keep_syntax_store.specs.Blocks.{raise_value}
use Rattle.keep_syntax_store.specs.Flat.{unpacked_value}
use Rattle.keep_syntax_store.proofs.EntryLaws.{entries_length}
use Rattle.keep_syntax.specs.Contract.{values_of}
use Rattle.keep_edit_plan.proofs.KeyvalSteps.{last_or, keyval_start, keyval_stop, keyval_end, keyval_own, keyval_inner}
use Rattle.keep_edit_plan.proofs.insert.last_keyval.Goals as goal
use Rattle.keep_edit_plan.proofs.insert.last_keyval.Goals.{then-value-depth-eq1, else-value-depth-eq1}

pub loop-number-init : goal.loop-number-init
loop-number-init c =
    keyval_start (values_of c.args.syntax.now) c.args.braces (c.args.braces + 1) _ c.value-depth.ensures.stored
    (omega arith)

pub returns-then-value-depth : goal.returns-then-value-depth
returns-then-value-depth c =
    sym (c.loop-number.invariant
    ∙ keyval_stop (values_of c.args.syntax.now) _ _ _ _ c.value-value.ensures.stored c.if-value-depth.true)

pub loop-number-preserved : goal.loop-number-preserved
loop-number-preserved c = elim c.if-value-depth-eq1.branch [
  | then-value-depth-eq1 w ↦
      c.loop-number.invariant
      ∙ keyval_own (values_of c.args.syntax.now) _ (c.loop-number.number + 1) _ c.loop-number.last _
      c.value-value.ensures.stored (omega (arith, c.if-value-depth.false)) (omega arith)
      (omega (arith, w.if-value-depth-eq1.true))
      ∙ ap (λ l. last_or l (c.loop-number.number + 1) c.value-depth.result.depth (values_of c.args.syntax.now))
      (sym w.last-is)
  | else-value-depth-eq1 w ↦
      c.loop-number.invariant
      ∙ keyval_inner (values_of c.args.syntax.now) _ (c.loop-number.number + 1) _ c.loop-number.last _
      c.value-value.ensures.stored (omega (arith, c.if-value-depth.false)) (omega arith)
      (λ e. absurd (omega (arith, e, w.if-value-depth-eq1.false)))
      ∙ ap (λ l. last_or l (c.loop-number.number + 1) c.value-depth.result.depth (values_of c.args.syntax.now))
      (sym w.last-is)
]

pub returns : goal.returns
returns c =
    sym (c.loop-number.invariant
    ∙ keyval_end (values_of c.args.syntax.now) c.loop-number.number _ _
    (omega (arith, c.loop-number-test.false, c.value_count-number-end.ensures)))

pub overflow_step-number : goal.overflow_step-number
overflow_step-number c =
    let vs = c.args.syntax.now.parts.values in
    omega (
      arith,
      c.requires,
      entries_length unpacked_value raise_value vs,
      vs.packed.ok.0,
      vs.packed.ok.1,
      vs.packed.small,
    )
