use Rattle.keep_edit_plan.proofs.AnswerLaws.{seen}
use Rattle.keep_edit_plan.proofs.FoundLaws.{none_found, one_found, number_found, number_found_at, no_number_found}
use Rattle.keep_edit_plan.proofs.document.DocumentRef.value_node.Goals as goal

pub returns-in_default : goal.returns-in_default
returns-in_default c =
    λ s read. none_found _ _ _ _ s (seen c.self.view_is c.self.invariant) read _ c.in_default.is c.find.ensures.found

pub returns-in-Value : goal.returns-in-Value
returns-in-Value c = λ s read.
    let h = seen c.self.view_is c.self.invariant in
    let stated = one_found _ _ _ _ s h read _ _ _ c.in-Some.is c.find.ensures.found c.node.ensures in
    (number_found_at _ _ _ _ s h read _ _ c.in-Some.is c.find.ensures.found, number_found _ s _ _ stated c.in-Value.is)

pub returns-in_default-origin : goal.returns-in_default-origin
returns-in_default-origin c = λ s read.
    let stated =
    one_found _ _ _ _ s (seen c.self.view_is c.self.invariant) read _ _ _ c.in-Some.is c.find.ensures.found
    c.node.ensures in
    no_number_found _ _ s _ read stated c.in_default-origin.not-Value
