use Rattle.std.proofs.Common.{◌≡◌, ◌+◌, ◌-◌, ◌<◌, ℕ, suc, length, sym, subst, ◌∙◌, arith, refl}
use Rattle.keep_edit_runs.specs.Runs.{MakeChanges}
use Rattle.keep_edit_runs.proofs.ItemSteps.{AreItemsAdded, items_made, more_items, no_items}
use Rattle.keep_edit_runs.proofs.RunSteps.{added, unadded}
use Rattle.keep_edit_runs.proofs.before.Before.items_by.Goals as goal

pub loop-number-init : goal.loop-number-init
loop-number-init c =
    subst (AreItemsAdded c.args.edits.now c.args.first c.args.first c.args.self.now c.in-Insert.path)
    (sym c.new-items.ensures) (no_items c.args.edits.now c.args.first c.args.self.now c.in-Insert.path)

pub returns-in_default-item_by-clause-made : goal.returns-in_default-item_by-clause-made
returns-in_default-item_by-clause-made c =
    items_made c.args.edits.now c.args.first _ c.args.self.now _ _ c.loop-number.invariant

pub add-requires : goal.add-requires
add-requires c = c.in-Some.ensures.within.ordered

pub returns-clause-made : goal.returns-clause-made
returns-clause-made c = items_made c.args.edits.now c.args.first _ c.args.self.now _ _ c.loop-number.invariant

pub returns-then-not-unwrap_or-clause-made : goal.returns-then-not-unwrap_or-clause-made
returns-then-not-unwrap_or-clause-made c =
    let first = c.args.first in
    unadded (λ ts. MakeChanges c.args.edits.now first (first + length ts) c.args.self.now ts) c.add.result
    c.loop-number.items _ c.add.new.self c.add.ensures.added c.add.ensures.refused
    (sym c.unwrap_or.ensures ∙ c.if-not-unwrap_or.true)
    (items_made c.args.edits.now first _ c.args.self.now _ _ c.loop-number.invariant)

pub loop-number-preserved : goal.loop-number-preserved
loop-number-preserved c =
    let edits = c.args.edits.now in
    let first = c.args.first in
    let now = c.args.self.now in
    let number = c.loop-number.number in
    let low : number < length edits = omega (arith, c.loop-number-test.true, c.min-end.ensures) in
    let one : suc number ≡ number + 1 = omega arith in
    let is = added c.add.result c.loop-number.items _ c.add.new.self _ c.add.ensures.beside c.add.ensures.added
    (sym c.unwrap_or.ensures ∙ c.if-not-unwrap_or.false) in
    subst (λ (n : ℕ). AreItemsAdded edits first n now c.in-Insert.path c.add.new.self) one
    (subst (AreItemsAdded edits first (suc number) now c.in-Insert.path) (sym is.1)
    (more_items edits first number now c.in-Insert.path c.loop-number.items c.index-edits-number.result
    c.index-edits-number.result (number - first) c.in-Some.item c.loop-number.invariant low
    (sym c.index-edits-number.is) refl c.in-Some.ensures))
