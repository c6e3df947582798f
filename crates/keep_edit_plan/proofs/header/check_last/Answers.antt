use Rattle.std.proofs.Common.{◌∙◌, ap, sym, true, false, Some}
use Rattle.keep_edit_plan.specs.Headers.{role_of}
use Rattle.keep_meaning.specs.Rules.{why_of}
use Rattle.keep_rules.specs.Lookup.{path_numbered, number_of}
use Rattle.keep_edit_plan.proofs.HeaderLaws.{last_free, last_met}
use Rattle.keep_edit_plan.proofs.header.check_last.Goals as goal

pub returns-in_default : goal.returns-in_default
returns-in_default c =
    λ s h. last_free s c.args.index.now h (path_numbered c.args.index.now c.args.at.0) c.args.name.now
    (role_of c.args.header) (sym c.child.ensures.found ∙ ap number_of c.in_default.is)

pub returns-then-may_follow : goal.returns-then-may_follow
returns-then-may_follow c =
    λ s h. last_met s c.args.index.now h (path_numbered c.args.index.now c.args.at.0) c.args.name.now c.in-Some.id
    c.node.result c.args.header true c.child.result c.in-Some.is c.child.ensures.found c.node.ensures
    (sym c.may_follow.ensures ∙ c.if-may_follow.true)

pub returns-else-may_follow : goal.returns-else-may_follow
returns-else-may_follow c = λ s h.
    last_met s c.args.index.now h (path_numbered c.args.index.now c.args.at.0) c.args.name.now c.in-Some.id
    c.node.result c.args.header false c.child.result c.in-Some.is c.child.ensures.found c.node.ensures
    (sym c.may_follow.ensures ∙ c.if-may_follow.false)
    ∙ ap Some (ap why_of (sym c.role.ensures) ∙ sym c.why_of.ensures)
