use Rattle.std.proofs.Common.{sym, subst, Ok}
use Rattle.keep_edit_plan.specs.Aiming.{IsKeyvalAimed, longest_prefix}
use Rattle.keep_edit_plan.proofs.AnswerLaws.{seen}
use Rattle.keep_edit_plan.proofs.AimLaws.{number_nested, stated_here}
use Rattle.keep_edit_plan.proofs.FoundLaws.{number_found, value_nested, values_are}
use Rattle.keep_edit_plan.proofs.KeyvalSpots.{root_spot, header_spot, element_spot, through_spot, braces_dotted}
use Rattle.keep_edit_plan.proofs.KeyvalSpots.{line_dotted, braces_aimed, value_refused, tables_refused}
use Rattle.keep_edit_plan.proofs.document.DocumentRef.keyval_spot.Goals as goal

pub node-node-requires : goal.node-node-requires
node-node-requires c =
    let (path, s, read, held) = c.requires in
    number_nested _ _ _ _ s (seen c.self.view_is c.self.invariant) read _ held.walk.node

pub braces_spot-requires : goal.braces_spot-requires
braces_spot-requires c =
    let (path, s, read, held) = c.requires in
    let h = seen c.self.view_is c.self.invariant in
    let stated = stated_here _ _ _ _ s h read _ held.walk.node _ c.node-node.ensures in
    value_nested _ _ _ _ s _ h read (number_found _ s _ _ stated c.in-Value.is)

pub returns-in-Root : goal.returns-in-Root
returns-in-Root c = λ path s read held.
    let h = seen c.self.view_is c.self.invariant in
    let stated = stated_here _ _ _ _ s h read _ held.walk.node _ c.node-node.ensures in
    root_spot _ path s _ read held _ stated c.in-Root.is

pub returns-in-Header : goal.returns-in-Header
returns-in-Header c = λ path s read held.
    let h = seen c.self.view_is c.self.invariant in
    let stated = stated_here _ _ _ _ s h read _ held.walk.node _ c.node-node.ensures in
    header_spot _ path s _ read held _ stated _ c.in-Header.is

pub returns-in-Element : goal.returns-in-Element
returns-in-Element c = λ path s read held.
    let h = seen c.self.view_is c.self.invariant in
    let stated = stated_here _ _ _ _ s h read _ held.walk.node _ c.node-node.ensures in
    element_spot _ path s _ read held _ stated _ c.in-Element.is

pub returns-in-Through : goal.returns-in-Through
returns-in-Through c = λ path s read held.
    let h = seen c.self.view_is c.self.invariant in
    let stated = stated_here _ _ _ _ s h read _ held.walk.node _ c.node-node.ensures in
    through_spot _ path s _ read held _ stated _ c.in-Through.is

pub returns-then-holder : goal.returns-then-holder
returns-then-holder c = λ path s read held.
    let h = seen c.self.view_is c.self.invariant in
    let stated = stated_here _ _ _ _ s h read _ held.walk.node _ c.node-node.ensures in
    braces_dotted _ path s _ read held _ stated _ c.in-Dotted.is c.if-holder.true

pub returns-else-holder : goal.returns-else-holder
returns-else-holder c = λ path s read held.
    let h = seen c.self.view_is c.self.invariant in
    let stated = stated_here _ _ _ _ s h read _ held.walk.node _ c.node-node.ensures in
    line_dotted _ path s _ read held _ stated _ c.in-Dotted.is c.if-holder.false

pub returns-in-Inline : goal.returns-in-Inline
returns-in-Inline c = λ path s read held.
    let h = seen c.self.view_is c.self.invariant in
    let stated = stated_here _ _ _ _ s h read _ held.walk.node _ c.node-node.ensures in
    let number = number_found _ s _ _ stated c.in-Value.is in
    let aimed =
    braces_aimed _ path s _ read held _ stated _ _ (values_are _ _ _ _ s _ h read number) c.in-Value.is
    c.in-Inline.is in
    subst (λ x. IsKeyvalAimed (longest_prefix path s) s c.args.holder.base (Ok x)) (sym c.braces_spot.ensures) aimed

pub returns-in_default : goal.returns-in_default
returns-in_default c = λ path s read held.
    let h = seen c.self.view_is c.self.invariant in
    let stated = stated_here _ _ _ _ s h read _ held.walk.node _ c.node-node.ensures in
    value_refused _ path s _ read held _ stated _ c.in-Value.is c.in_default.not-Inline

pub returns-in-Tables : goal.returns-in-Tables
returns-in-Tables c = λ path s read held.
    let h = seen c.self.view_is c.self.invariant in
    let stated = stated_here _ _ _ _ s h read _ held.walk.node _ c.node-node.ensures in
    tables_refused _ path s _ read held _ stated c.in-Tables.is
