use Rattle.std.proofs.Common.{sym, ap, ◌∙◌}
use Rattle.keep_meaning.specs.Meaning.{body_fact}
use Rattle.keep_meaning.specs.Nodes.{fact_kind}
use Rattle.keep_meaning.specs.OtherValues.{nodes_in_value}
use Rattle.keep_path.specs.NodesBelow.{Totals, with_value}
use Rattle.keep_edit_plan.specs.IndexChanges.{totals_in}
use Rattle.keep_edit.proofs.InsideLaws.{from_ok}
use Rattle.keep_edit.proofs.index_change.set_inside.Goals as goal

pub returns-clause-changed : goal.returns-clause-changed
returns-clause-changed c = λ d was done v at gone below.
    from_ok _ c.set_text.result (sym c.is_ok.ensures.value ∙ done) c.set_text.ensures.set v
    (c.in-Some.ensures d was v at) gone below
    ∙ ap (λ (n : Totals).
    with_value c.args.index.now c.args.node.0 gone (totals_in c.args.old) n (nodes_in_value v)
    (fact_kind (body_fact v.body))) (c.totals_of.ensures d was.is)
