use Rattle.std.proofs.Common.{◌+◌, ◌||◌, suc, sym, ◌∙◌, ap, drop, arith}
use Rattle.std.specs.List.{list_any}
use Rattle.keep_edit_spec.specs.Look.{is_index}
use Rattle.keep_edit_plan.proofs.KeyvalSteps.{index_here, no_index_left}
use Rattle.keep_edit_plan.proofs.insert.has_index.Goals as goal

pub returns-then-is_index_step : goal.returns-then-is_index_step
returns-then-is_index_step c =
    let here =
    index_here c.args.path.now c.loop-number.number (suc c.loop-number.number) _ (sym c.in-Some.ensures)
    (omega arith) in
    sym (c.loop-number.invariant ∙ here
    ∙ ap (λ b. b || list_any is_index (drop (suc c.loop-number.number) c.args.path.now))
    (sym c.if-is_index_step.ensures))

pub loop-number-preserved : goal.loop-number-preserved
loop-number-preserved c =
    let here =
    index_here c.args.path.now c.loop-number.number (c.loop-number.number + 1) _ (sym c.in-Some.ensures)
    (omega arith) in
    c.loop-number.invariant ∙ here
    ∙ ap (λ b. b || list_any is_index (drop (c.loop-number.number + 1) c.args.path.now))
    (sym c.if-is_index_step.ensures)

pub returns : goal.returns
returns c =
    sym (c.loop-number.invariant
    ∙ no_index_left c.args.path.now c.loop-number.number
    (omega (arith, c.loop-number-test.false, c.len-number-end.ensures.count)))
