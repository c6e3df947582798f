use Rattle.std.proofs.Common.{ℕ, ◌∙◌, ap, arith, subst, sym}
use Rattle.indexmap.proofs.MapLemmas.{OnOk-map}
use Rattle.keep_types.specs.declared.node.Kind.{Kind}
use Rattle.keep_index_store.specs.Below.{totals_in}
use Rattle.keep_index_store.specs.Renumbering.{numbers_of}
use Rattle.keep_index_store.specs.Tree.{node_infos}
use Rattle.keep_path.specs.NodeInfos.{NodeInfos, root_infos, without_node}
use Rattle.keep_path.specs.NodesBelow.{AreBelow, Totals, with_value}
use Rattle.keep_rules.specs.LinePlaces.{one_more}
use Rattle.keep_rules.proofs.QueryLemmas.{count_paths}
use Rattle.keep_rules.proofs.index.Index.remove_value.Goals as goal

pub remove_value-requires : goal.remove_value-requires
remove_value-requires c =
    omega (arith, c.requires, count_paths c.self.inside.nodes c.args.self.now c.self.invariant.0 c.self.view_is)

pub returns-clause-removed : goal.returns-clause-removed
returns-clause-removed c =
    let after : NodeInfos → ℕ → Totals → Kind → NodeInfos = λ t gone bare kind.
    without_node (with_value t c.args.node.0 gone (totals_in c.args.old) bare root_infos kind) c.args.node.0
    (numbers_of c.args.line) in
    OnOk-map c.remove_value.result _ _ (λ is gone kind are.
    is gone kind (subst (λ (t : NodeInfos). AreBelow t.paths c.args.node.0 gone) (sym c.self.view_is) are)
    ∙ ap (λ (b : Totals). after (node_infos c.self.inside.nodes) gone b kind) c.in-Some.ensures
    ∙ ap (λ (t : NodeInfos). after t gone (one_more (totals_in c.args.new)) kind) c.self.view_is)
    c.remove_value.ensures.removed
