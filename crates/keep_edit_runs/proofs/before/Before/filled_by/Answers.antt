use Rattle.std.proofs.Common.{◌≡◌, ◌+◌, ◌<◌, ◌∙◌, ℕ, arith, length, refl, subst, suc, sym}
use Rattle.keep_edit_runs.proofs.FilledSteps.{AreFilledBy, filled_made, filled_within, no_tables, tables_more}
use Rattle.keep_edit_runs.proofs.before.Before.filled_by.Goals as goal

pub loop-number-init : goal.loop-number-init
loop-number-init c =
    no_tables c.args.edits.now c.args.first c.args.self.now c.new-tables.result c.new-tables.ensures.none.0
    c.new-tables.ensures.none.1 c.new-tables.ensures.no_arrays

pub loop-number-preserved : goal.loop-number-preserved
loop-number-preserved c =
    let edits = c.args.edits.now in
    let first = c.args.first in
    let now = c.args.self.now in
    let number = c.loop-number.number in
    let low : number < length edits = omega (arith, c.loop-number-test.true, c.min-end.ensures) in
    let one : suc number ≡ number + 1 = omega arith in
    subst (λ (n : ℕ). AreFilledBy edits first n now c.fills.new.tables) one
    (tables_more edits first number now c.loop-number.tables c.fills.new.tables c.index-edits-number.result
    c.index-edits-number.result c.loop-number.invariant low (sym c.index-edits-number.is)
    (c.fills.ensures.filled c.if-not-fills.false))

pub returns-clause-made : goal.returns-clause-made
returns-clause-made c =
    filled_made c.args.edits.now c.args.first c.args.self.now c.loop-number.tables c.loop-number.invariant
    c.up_to-2.ensures.0 (c.up_to-2.ensures.1 ∙ omega (arith, c.loop-number-test.false, c.loop-number.auto.number-end))

pub returns-clause-within : goal.returns-clause-within
returns-clause-within c =
    filled_within c.args.edits.now c.args.first c.args.self.now c.loop-number.tables c.loop-number.invariant
    c.up_to-2.ensures.0

pub returns-then-not-fills-clause-made : goal.returns-then-not-fills-clause-made
returns-then-not-fills-clause-made c =
    filled_made c.args.edits.now c.args.first c.args.self.now c.loop-number.tables c.loop-number.invariant
    (c.up_to.ensures.0 ∙ c.if-not-fills.ensures.refused refl) c.up_to.ensures.1

pub returns-then-not-fills-clause-within : goal.returns-then-not-fills-clause-within
returns-then-not-fills-clause-within c =
    filled_within c.args.edits.now c.args.first c.args.self.now c.loop-number.tables c.loop-number.invariant
    (c.up_to.ensures.0 ∙ c.if-not-fills.ensures.refused refl)
