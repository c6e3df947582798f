use Rattle.std.proofs.Common.{subst, sym, ◌∙◌}
use Rattle.keep_edit_plan.specs.IndexChanges.{CanChange}
use Rattle.keep_edit.proofs.InsideLaws.{from_ok}
use Rattle.keep_edit.proofs.index_change.change_index.Goals as goal

pub returns-in-AddedValue-clause-changed : goal.returns-in-AddedValue-clause-changed
returns-in-AddedValue-clause-changed c = λ d was done.
    let can = subst (CanChange c.args.index.now) c.in-AddedValue.is c.requires in
    rw (c.in-AddedValue.is, sym (c.totals_of-in-AddedValue.ensures d was.is))
    (λ v text.
    from_ok _ c.insert_value.result (sym c.is_ok-in-AddedValue.ensures.value ∙ done) c.insert_value.ensures.inserted _
    can.2 v text)

pub returns-in-AddedKeys-clause-changed : goal.returns-in-AddedKeys-clause-changed
returns-in-AddedKeys-clause-changed c = λ d was done.
    let can = subst (CanChange c.args.index.now) c.in-AddedKeys.is c.requires in
    rw (c.in-AddedKeys.is, sym (c.totals_of-in-AddedKeys.ensures d was.is))
    (λ first further keys.
    from_ok _ c.insert_keys.result (sym c.is_ok-in-AddedKeys.ensures.value ∙ done) c.insert_keys.ensures.inserted _
    can.2 first further keys)

pub returns-in-AddedKeysValue-clause-changed : goal.returns-in-AddedKeysValue-clause-changed
returns-in-AddedKeysValue-clause-changed c = λ d was done.
    let can = subst (CanChange c.args.index.now) c.in-AddedKeysValue.is c.requires in
    rw (c.in-AddedKeysValue.is, sym (c.totals_of-now.ensures d was.is))
    (λ first further keys v text.
    from_ok _ c.insert_keys_value.result (sym c.is_ok-in-AddedKeysValue.ensures.value ∙ done)
    c.insert_keys_value.ensures.inserted _ can.2 first further keys v text)
