use Rattle.std.proofs.Common.{ap, sym, subst, refl, ◌∙◌, map, List}
use Rattle.std.specs.Prelude.{string_bytes, String}
use Rattle.std.specs.Global.{Global}
use Rattle.keep_edit_spec.specs.Edits as law
use Rattle.keep_edit_plan.specs.Plans.{EditPlanned}
use Rattle.keep_edit_plan.proofs.GivenLaws.{by_value}
use Rattle.keep_edit_plan.proofs.document.DocumentRef.plan.Goals as goal

pub returns-in-Set-clause-planned : goal.returns-in-Set-clause-planned
returns-in-Set-clause-planned c = λ s read e is.
    by_value law.set c.in-Set.path c.in-Set.value e
    (λ (x : law.Edit). EditPlanned s x c.args.self.now c.set_plan.result) (c.set_plan.ensures.planned s read)
    (rw c.in-Set.is at is)

pub returns-in-Set-clause-edit : goal.returns-in-Set-clause-edit
returns-in-Set-clause-edit c =
    let (v, value) = c.set_plan.ensures.value in rw c.in-Set.is (law.set c.in-Set.path v, (v, value, refl))

pub returns-in-Insert-clause-planned : goal.returns-in-Insert-clause-planned
returns-in-Insert-clause-planned c = λ s read e is.
    by_value law.insert c.in-Insert.path c.in-Insert.value e
    (λ (x : law.Edit). EditPlanned s x c.args.self.now c.insert_plan.result) (c.insert_plan.ensures.planned s read)
    (rw c.in-Insert.is at is)

pub returns-in-Insert-clause-edit : goal.returns-in-Insert-clause-edit
returns-in-Insert-clause-edit c =
    let (v, value) = c.insert_plan.ensures.value in rw c.in-Insert.is (law.insert c.in-Insert.path v, (v, value, refl))

pub returns-in-Rename-clause-planned : goal.returns-in-Rename-clause-planned
returns-in-Rename-clause-planned c = λ s read e is.
    let same = rw c.in-Rename.is at is in
    subst (λ (x : law.Edit). EditPlanned s x c.args.self.now c.rename_plan.result)
    (ap (law.rename c.in-Rename.path) c.as_str.ensures.value ∙ sym same) (c.rename_plan.ensures.planned s read)

pub returns-in-Rename-clause-edit : goal.returns-in-Rename-clause-edit
returns-in-Rename-clause-edit c = rw c.in-Rename.is (law.rename c.in-Rename.path (string_bytes c.in-Rename.key), refl)

pub returns-in-Remove-clause-planned : goal.returns-in-Remove-clause-planned
returns-in-Remove-clause-planned c = λ s read e is.
    let same = rw c.in-Remove.is at is in
    subst (λ (x : law.Edit). EditPlanned s x c.args.self.now c.remove_plan.result) (sym same)
    (c.remove_plan.ensures.planned s read)

pub returns-in-Remove-clause-edit : goal.returns-in-Remove-clause-edit
returns-in-Remove-clause-edit c = rw c.in-Remove.is (law.remove c.in-Remove.path, refl)

pub returns-in-Table-clause-planned : goal.returns-in-Table-clause-planned
returns-in-Table-clause-planned c = λ s read e is.
    let same = rw c.in-Table.is at is in
    subst (λ (x : law.Edit). EditPlanned s x c.args.self.now c.append_plan.result)
    (ap (λ (ks : List (String Global)). law.append_table (map string_bytes ks)) c.as_slice.ensures.value ∙ sym same)
    (c.append_plan.ensures.planned s read)

pub returns-in-Table-clause-edit : goal.returns-in-Table-clause-edit
returns-in-Table-clause-edit c = rw c.in-Table.is (law.append_table (map string_bytes c.in-Table.keys.items), refl)

pub returns-in-Element-clause-planned : goal.returns-in-Element-clause-planned
returns-in-Element-clause-planned c = λ s read e is.
    let same = rw c.in-Element.is at is in
    subst (λ (x : law.Edit). EditPlanned s x c.args.self.now c.append_plan-in-Element.result)
    (ap (λ (ks : List (String Global)). law.append_element (map string_bytes ks)) c.as_slice-in-Element.ensures.value
    ∙ sym same) (c.append_plan-in-Element.ensures.planned s read)

pub returns-in-Element-clause-edit : goal.returns-in-Element-clause-edit
returns-in-Element-clause-edit c =
    rw c.in-Element.is (law.append_element (map string_bytes c.in-Element.keys.items), refl)
