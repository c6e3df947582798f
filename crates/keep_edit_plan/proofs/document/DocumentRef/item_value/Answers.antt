use Rattle.std.proofs.Common.{sym, ◌∙◌, ap}
use Rattle.keep_rules.specs.Lookup.{number_of}
use Rattle.keep_edit_plan.proofs.AnswerLaws.{seen}
use Rattle.keep_edit_plan.proofs.AimLaws.{number_nested, none_below, stated_below, other_value}
use Rattle.keep_edit_plan.proofs.FoundLaws.{number_found}
use Rattle.keep_edit_plan.proofs.document.DocumentRef.item_value.Goals as goal

pub step-requires : goal.step-requires
step-requires c =
    let (a, s, read, node) = c.requires in number_nested _ _ _ a s (seen c.self.view_is c.self.invariant) read _ node

pub returns-in_err-id : goal.returns-in_err-id
returns-in_err-id c = λ a s read node.
    c.from_residual.ensures
    ∙ sym (none_below _ _ _ a s (seen c.self.view_is c.self.invariant) read _ node _
    (sym c.step.ensures.node.found ∙ ap number_of c.in_err-id.was))

pub returns-in-Value : goal.returns-in-Value
returns-in-Value c = λ a s read node.
    let stated =
    stated_below _ _ _ a s (seen c.self.view_is c.self.invariant) read _ node _ _ _ c.in_ok-id.was
    c.step.ensures.node.found _ c.node.ensures in
    sym (number_found _ s _ _ stated c.in-Value.is)

pub returns-in_default : goal.returns-in_default
returns-in_default c = λ a s read node.
    let stated =
    stated_below _ _ _ a s (seen c.self.view_is c.self.invariant) read _ node _ _ _ c.in_ok-id.was
    c.step.ensures.node.found _ c.node.ensures in
    sym (other_value _ s _ stated c.in_default.not-Value)
