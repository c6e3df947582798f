-- The line's node comes where the search finds its place, and the nodes below it are those of the value.
use Rattle.std.proofs.Common.{ℕ, ◌∷◌, ◌++◌, [], ◌∙◌, ap, arith, subst, sym}
use Rattle.indexmap.proofs.MapLemmas.{OnOk-map}
use Rattle.keep_types.specs.declared.node.Kind.{Kind}
use Rattle.keep_index_store.specs.Below.{totals_in}
use Rattle.keep_index_store.specs.Renumbering.{numbers_of}
use Rattle.keep_index_store.specs.Tree.{node_infos}
use Rattle.keep_meaning.specs.Meaning.{body_fact}
use Rattle.keep_meaning.specs.Nodes.{fact_kind}
use Rattle.keep_meaning.specs.OtherValues.{nodes_in_value}
use Rattle.keep_path.specs.NodeInfos.{NodeInfos, with_node}
use Rattle.keep_path.specs.NodesBelow.{Totals, with_value}
use Rattle.keep_path.specs.Path.{key}
use Rattle.keep_rules.specs.LinePlaces.{IsPlaceOf, one_more}
use Rattle.keep_rules.specs.Lookup.{path_numbered}
use Rattle.keep_rules.proofs.QueryLemmas.{count_paths}
use Rattle.keep_rules.proofs.index.Index.insert_value.Goals as goal

pub insert_value-requires : goal.insert_value-requires
insert_value-requires c =
    omega (arith, c.requires, count_paths c.self.inside.nodes c.args.self.now c.self.invariant.0 c.self.view_is)

pub returns-clause-inserted : goal.returns-clause-inserted
returns-clause-inserted c =
    let before : NodeInfos = node_infos c.self.inside.nodes in
    let after : NodeInfos → ℕ → Totals → NodeInfos → Kind → NodeInfos = λ t at bare inside kind.
    with_value (with_node t at (numbers_of c.args.line) (path_numbered t c.args.parent.0 ++ key c.args.text.now ∷ [])
    kind) at 0 bare (totals_in c.args.new) inside kind in
    OnOk-map c.insert_value.result _ _ (λ is at from v text.
    let there =
    c.first_met_from-at.ensures.place at (subst (λ (x : NodeInfos). IsPlaceOf (numbers_of c.args.line) x.infos at)
    (sym c.self.view_is) from) in
    is
    ∙ ap (λ (n : ℕ). after before n (totals_in c.in-Some.bare) (node_infos c.in_ok-inside.inside) c.kind-kind.result)
    there
    ∙ ap (λ (b : Totals). after before at b (node_infos c.in_ok-inside.inside) c.kind-kind.result) c.in-Some.ensures
    ∙ ap (λ (t : NodeInfos). after before at (one_more (totals_in c.args.old)) t c.kind-kind.result)
    (c.in_ok-inside.ensures v text)
    ∙ ap (after before at (one_more (totals_in c.args.old)) (nodes_in_value v)) (c.kind-kind.ensures v text)
    ∙ ap (λ (t : NodeInfos).
    after t at (one_more (totals_in c.args.old)) (nodes_in_value v) (fact_kind (body_fact v.body))) c.self.view_is)
    c.insert_value.ensures.inserted
