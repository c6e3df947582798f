use Rattle.std.proofs.Common.{◌∙◌, ap, sym, ◌-◌}
use Rattle.keep_rules.specs.Lookup.{path_numbered, number_of, nth_child}
use Rattle.keep_edit_plan.proofs.HeaderLaws.{enters_none, enters_refused, enters_tables, enters_other}
use Rattle.keep_edit_plan.proofs.header.enter.Goals as goal

pub returns-in_default : goal.returns-in_default
returns-in_default c =
    λ s h. enters_none s c.args.index.now h _ (sym c.child.ensures.found ∙ ap number_of c.in_default.is)

pub returns-in-Value : goal.returns-in-Value
returns-in-Value c = λ s h. (
  (enters_refused s c.args.index.now h (path_numbered c.args.index.now c.args.at.0) c.args.name.now c.in-Some.id
      c.node.result c.child.result c.in-Some.is c.child.ensures.found c.node.ensures c.in-Value.field-0
      c.in-Value.is).0,
  c.why_of.ensures,
)

pub returns-in-Tables : goal.returns-in-Tables
returns-in-Tables c = λ s h.
    enters_tables s c.args.index.now h (path_numbered c.args.index.now c.args.at.0) c.args.name.now c.in-Some.id
    c.node.result c.child.result c.in-Some.is c.child.ensures.found c.node.ensures c.in-Tables.is c.child_at.result
    (c.child_at.ensures.node.found
    ∙ ap (nth_child c.args.index.now c.in-Some.id.0)
    (c.saturating_sub.ensures ∙ ap (λ n. n - 1) c.child_count-count.ensures))

pub returns-in_default-origin : goal.returns-in_default-origin
returns-in_default-origin c = λ s h.
    enters_other s c.args.index.now h (path_numbered c.args.index.now c.args.at.0) c.args.name.now c.in-Some.id
    c.node.result c.child.result c.in-Some.is c.child.ensures.found c.node.ensures c.in_default-origin.not-Value
    c.in_default-origin.not-Tables
