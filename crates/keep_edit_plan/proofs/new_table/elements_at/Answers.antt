use Rattle.std.proofs.Common.{◌≡◌, ◌+◌, ◌∙◌, ap, sym, arith}
use Rattle.keep_rules.specs.Lookup.{number_of, path_numbered}
use Rattle.keep_edit_plan.proofs.NewElementLaws.{elements_there, nothing_there}
use Rattle.keep_edit_plan.proofs.new_table.elements_at.Goals as goal

pub returns-in_default : goal.returns-in_default
returns-in_default c = λ s h.
    nothing_there s c.args.index.now h (path_numbered c.args.index.now c.args.at.0) c.args.name.now c.child.result
    c.in_default.is c.child.ensures.found

pub returns : goal.returns
returns c = λ s h.
    let named = sym c.step.ensures.node.found ∙ ap number_of c.in_ok-_element.was in
    let more : c.child_count-count.result ≡ c.in_ok-last.last + 1 =
    omega (arith, c.in_ok-last.ensures.0, c.in_ok-last.ensures.1) in
    elements_there s c.args.index.now h (path_numbered c.args.index.now c.args.at.0) c.args.name.now c.in-Some.array
    c.node.result c.child.result c.in-Some.is c.child.ensures.found c.node.ensures c.in-Tables.is
    c.child_count-count.result c.in_ok-last.last c.child_count-count.ensures more c.in_ok-_element._element named
    c.child_at-child.result c.child_at-child.ensures.node.found (c.child_at-child.ensures.indexed _ named)
