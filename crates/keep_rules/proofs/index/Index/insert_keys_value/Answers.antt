-- The first key's node comes where the search finds its place, and below it are the nodes of the others and of the
-- value.
use Rattle.std.proofs.Common.{ℕ, List, ◌∷◌, ◌++◌, [], ◌∙◌, ap, arith, subst, sym}
use Rattle.indexmap.proofs.MapLemmas.{OnOk-map}
use Rattle.keep_types.specs.declared.node.Kind.TheVariants.{Table}
use Rattle.keep_index_store.specs.Below.{totals_in}
use Rattle.keep_index_store.specs.Renumbering.{numbers_of}
use Rattle.keep_index_store.specs.Tree.{node_infos}
use Rattle.keep_path.specs.NodeInfos.{NodeInfos, with_table}
use Rattle.keep_path.specs.NodesBelow.{Totals, with_value}
use Rattle.keep_path.specs.Path.{key}
use Rattle.keep_rules.specs.LinePlaces.{IsPlaceOf, one_more}
use Rattle.keep_rules.specs.Lookup.{path_numbered}
use Rattle.keep_meaning.specs.KeysMore.{keys_with_value}
use Rattle.keep_meaning.specs.Meaning.{body_fact}
use Rattle.keep_meaning.specs.Nodes.{fact_kind}
use Rattle.keep_meaning.specs.OtherValues.{nodes_in_value}
use Rattle.keep_rules.proofs.KeysAloneLemmas.{first_same, rest_same}
use Rattle.keep_rules.proofs.QueryLemmas.{count_paths}
use Rattle.keep_rules.proofs.index.Index.insert_keys_value.Goals as goal

pub insert_table-requires : goal.insert_table-requires
insert_table-requires c =
    omega (arith, c.requires, count_paths c.self.inside.nodes c.args.self.now c.self.invariant.0 c.self.view_is)

pub returns-clause-inserted : goal.returns-clause-inserted
returns-clause-inserted c =
    let before : NodeInfos = node_infos c.self.inside.nodes in
    let after : NodeInfos → ℕ → List ℕ → Totals → NodeInfos → NodeInfos = λ t at text bare inside.
    with_value (with_table t at (numbers_of c.args.line) (path_numbered t c.args.parent.0 ++ key text ∷ [])) at 0 bare
    (totals_in c.args.new) inside Table in
    OnOk-map c.insert_table.result _ _ (λ is at from first further left v text.
    let there =
    c.first_met_from-at.ensures.place at (subst (λ (x : NodeInfos). IsPlaceOf (numbers_of c.args.line) x.infos at)
    (sym c.self.view_is) from) in
    is
    ∙ ap (λ (n : ℕ).
    after before n c.in_ok-text.text.now (totals_in c.in-Some.bare) (node_infos c.in_ok-inside.inside)) there
    ∙ ap (λ (k : List ℕ). after before at k (totals_in c.in-Some.bare) (node_infos c.in_ok-inside.inside))
    (first_same c.args.path.now c.args.from first further left c.in_ok-text.text.now c.in_ok-text.ensures)
    ∙ ap (λ (b : Totals). after before at first b (node_infos c.in_ok-inside.inside)) c.in-Some.ensures
    ∙ ap (after before at first (one_more (totals_in c.args.old)))
    (c.in_ok-inside.ensures further (rest_same c.args.path.now c.args.from first further left) v text)
    ∙ ap (λ (t : NodeInfos).
    after t at first (one_more (totals_in c.args.old))
    (keys_with_value further (fact_kind (body_fact v.body)) (nodes_in_value v))) c.self.view_is)
    c.insert_table.ensures.inserted
