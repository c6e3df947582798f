use Rattle.std.proofs.Common.{◌≡◌, ℕ, All, Bor, IfSome, List, None, Option, Some, false, refl, sym, ◌∙◌}
use Rattle.std.proofs.lemmas.List.Folds.{list_any_none}
use Rattle.std.specs.List.{list_any}
use Rattle.std.specs.Option.{is_some}
use Rattle.keep_edit_spec.specs.Runs.{takes_up_to}
use Rattle.keep_edit_spec.specs.TextChanges.{TextChange}
use Rattle.keep_edit_plan.specs.TextEdits.{TakesAlone, change_of}
use Rattle.keep_edit_plan.specs.declared.text_edit.TextEdit.{TextEdit}
use Rattle.keep_edit_plan.proofs.TextEditLaws.{alone_takes}
use Rattle.keep_edit_plan.proofs.text_edits.TextEdits.take_up_to.Goals as goal

-- whether there is such an edit
found : (place : ℕ) (changes : List TextChange) (r : Option (Bor TextEdit))
    → IfSome r (λ edit. TakesAlone place changes (change_of edit.now))
    → (r ≡ None → All (λ x. takes_up_to place x ≡ false) changes)
    → is_some r ≡ list_any (takes_up_to place) changes
found place changes None one other = sym (list_any_none (takes_up_to place) changes (other refl))
found place changes (Some edit) one other = sym (alone_takes place changes (change_of edit.now) one)

pub returns : goal.returns
returns c =
    c.is_some.ensures
    ∙ found c.args.place c.args.self.now c.taking_up_to.result c.taking_up_to.ensures.one c.taking_up_to.ensures.other
