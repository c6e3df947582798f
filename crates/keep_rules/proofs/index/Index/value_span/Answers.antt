use Rattle.std.proofs.Common.{◌∙◌, ap, sym}
use Rattle.std.specs.Option.{option_and_then}
use Rattle.keep_syntax.specs.Contract.{values_of}
use Rattle.keep_meaning.specs.Nodes.{value_span}
use Rattle.keep_rules.proofs.SpanLemmas.{no_value, origin_value, value_placed_at}
use Rattle.keep_rules.proofs.index.Index.value_span.Goals as goal

pub returns-in_default : goal.returns-in_default
returns-in_default c = λ d syntax of.
    ap (option_and_then (value_span (values_of c.args.syntax.now)))
    (sym (no_value c.node.result.origin c.in_default.not-Value))
    ∙ value_placed_at d c.args.self.now c.args.id.0 c.node.result of c.node.ensures _ _ syntax.values

pub returns : goal.returns
returns c = λ d syntax of.
    c.value_span_at.ensures
    ∙ ap (λ o. option_and_then (value_span (values_of c.args.syntax.now)) (origin_value o)) (sym c.in-Value.is)
    ∙ value_placed_at d c.args.self.now c.args.id.0 c.node.result of c.node.ensures _ _ syntax.values
