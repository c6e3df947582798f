use Rattle.std.proofs.Common.{sym, ◌∙◌, arith}
use Rattle.keep_edit_plan.proofs.AnswerLaws.{seen}
use Rattle.keep_edit_plan.proofs.FoundLaws.{none_unless, number_found}
use Rattle.keep_edit_plan.proofs.AimLaws.{number_nested, stated_here, other_value, before_item, after_item}
use Rattle.keep_edit_plan.proofs.AimLaws.{no_item_there, in_empty_array, array_has_value}
use Rattle.keep_edit_plan.proofs.document.DocumentRef.item_spot.Goals as goal

pub returns-in-Some : goal.returns-in-Some
returns-in-Some c =
    λ path s read here.
    before_item _ path _ s _ read here _ (sym c.in-Some.is ∙ c.item_value.ensures _ s read here.node)

pub returns-in-Some-item_value : goal.returns-in-Some-item_value
returns-in-Some-item_value c = λ path s read here.
    after_item _ path _ s _ read here _ _ (omega (arith, c.if-number-gt0.true))
    (sym (none_unless _ c.in_default.not-Some) ∙ c.item_value.ensures _ s read here.node)
    (sym c.in-Some-item_value.is ∙ c.item_value-then-number-gt0.ensures _ s read here.node)

pub returns-in-None : goal.returns-in-None
returns-in-None c = λ path s read here.
    no_item_there _ path _ s _ read here _ (omega (arith, c.if-number-gt0.true))
    (sym c.in-None.is ∙ c.item_value-then-number-gt0.ensures _ s read here.node)

pub node-requires : goal.node-requires
node-requires c =
    let (path, s, read, here) = c.requires in
    number_nested _ _ _ _ s (seen c.self.view_is c.self.invariant) read _ here.node

pub unreachable-requires : goal.unreachable-requires
unreachable-requires c =
    let (path, s, read, here) = c.requires in
    let stated = stated_here _ _ _ _ s (seen c.self.view_is c.self.invariant) read _ here.node _ c.node.ensures in
    array_has_value _ path _ s _ read here (other_value _ s _ stated c.in_default-origin.not-Value)

pub returns : goal.returns
returns c = λ path s read here.
    let stated = stated_here _ _ _ _ s (seen c.self.view_is c.self.invariant) read _ here.node _ c.node.ensures in
    in_empty_array _ path _ s _ read here _ c.if-number-gt0.false
    (sym (none_unless _ c.in_default.not-Some) ∙ c.item_value.ensures _ s read here.node)
    (number_found _ s _ _ stated c.in-Value.is)
