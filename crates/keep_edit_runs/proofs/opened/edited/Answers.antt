use Rattle.std.proofs.Common.{ap, string_bytes, subst, sym}
use Rattle.std.specs.Prelude.{IfSome}
use Rattle.keep_path.specs.Step.{part_of}
use Rattle.keep_edit_plan.specs.OpenValues.{PutsKeyvalText, TakesEntryText}
use Rattle.keep_edit_runs.specs.ValueAfter.{EndsInStep, MakesValue}
use Rattle.keep_edit_runs.proofs.OpenedLaws.{each_some, puts_item, puts_keyval, takes_entry}
use Rattle.keep_edit_runs.proofs.opened.edited.Goals as goal

pub returns-in-Index : goal.returns-in-Index
returns-in-Index c profile =
    let step = c.in_ok-number-in-Insert in
    subst (λ x. IfSome c.with_item.result (MakesValue profile c.args.value x)) (sym c.in-Insert.is)
    (each_some (λ now. puts_item profile c.args.value now c.in-Insert.path c.in-Index.number c.in-Insert.new
    (subst (EndsInStep c.in-Insert.path) (ap part_of c.in-Index.is) step.ensures.last) step.ensures.utf8)
    c.with_item.result c.with_item.ensures)

pub returns-in-Key : goal.returns-in-Key
returns-in-Key c profile =
    let step = c.in_ok-number-in-Insert in
    subst (λ x. IfSome c.with_keyval.result (MakesValue profile c.args.value x)) (sym c.in-Insert.is)
    (each_some
    (λ now. puts_keyval profile c.args.value now c.in-Insert.path (string_bytes c.in-Key.name) c.in-Insert.new
    (subst (EndsInStep c.in-Insert.path) (ap part_of c.in-Key.is) step.ensures.last) step.ensures.utf8)
    c.with_keyval.result
    (subst (λ name. IfSome c.with_keyval.result (PutsKeyvalText c.args.value name c.in-Insert.new))
    c.as_str.ensures.value c.with_keyval.ensures))

pub returns-in_ok-last_step-in-Remove : goal.returns-in_ok-last_step-in-Remove
returns-in_ok-last_step-in-Remove c profile =
    let step = c.in_ok-last_step-in-Remove in
    subst (λ x. IfSome c.without_entry.result (MakesValue profile c.args.value x)) (sym c.in-Remove.is)
    (each_some (λ now. takes_entry profile c.args.value now c.in-Remove.path (part_of step.field-0.now)
    step.ensures.last step.ensures.utf8) c.without_entry.result
    (subst (λ was. IfSome c.without_entry.result (TakesEntryText was (part_of step.field-0.now)))
    c.value-in-Remove.view_is c.without_entry.ensures))
