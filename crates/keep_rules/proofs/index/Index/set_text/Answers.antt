-- The nodes that take the place of the old ones are those of the value.
use Rattle.std.proofs.Common.{ℕ, ◌∙◌, ap, arith, subst, sym}
use Rattle.indexmap.proofs.MapLemmas.{OnOk-map}
use Rattle.keep_types.specs.declared.node.Kind.{Kind}
use Rattle.keep_path.specs.NodeInfos.{NodeInfos}
use Rattle.keep_path.specs.NodesBelow.{AreBelow, with_value}
use Rattle.keep_index_store.specs.Below.{totals_in}
use Rattle.keep_index_store.specs.Tree.{node_infos}
use Rattle.keep_meaning.specs.Meaning.{body_fact}
use Rattle.keep_meaning.specs.Nodes.{fact_kind}
use Rattle.keep_meaning.specs.OtherValues.{nodes_in_value}
use Rattle.keep_rules.proofs.QueryLemmas.{count_paths}
use Rattle.keep_rules.proofs.index.Index.set_text.Goals as goal

pub replace_below-requires : goal.replace_below-requires
replace_below-requires c =
    omega (arith, c.requires, count_paths c.self.inside.nodes c.args.self.now c.self.invariant.0 c.self.view_is)

pub returns-clause-set : goal.returns-clause-set
returns-clause-set c =
    let before : NodeInfos = node_infos c.self.inside.nodes in
    let given : NodeInfos → ℕ → NodeInfos → Kind → NodeInfos =
    λ t gone. with_value t c.args.node.0 gone (totals_in c.args.old) (totals_in c.args.new) in
    OnOk-map c.replace_below.result _ _ (λ is v text gone are.
    is gone (subst (λ (t : NodeInfos). AreBelow t.paths c.args.node.0 gone) (sym c.self.view_is) are)
    ∙ ap (λ (t : NodeInfos). given before gone t c.in_ok-inside.kind) (c.in_ok-inside.ensures.nodes v text)
    ∙ ap (given before gone (nodes_in_value v)) (c.in_ok-inside.ensures.kind v text)
    ∙ ap (λ (t : NodeInfos). given t gone (nodes_in_value v) (fact_kind (body_fact v.body))) c.self.view_is)
    c.replace_below.ensures.replaced
