use Rattle.std.proofs.Common.{◌∷◌, ◌++◌, [], ◌∙◌, ap, arith, subst, sym}
use Rattle.indexmap.proofs.MapLemmas.{OnOk-map}
use Rattle.keep_index_store.specs.Renumbering.{numbers_of}
use Rattle.keep_index_store.specs.Tree.{node_infos}
use Rattle.keep_path.specs.NodeInfos.{NodeInfos, with_node}
use Rattle.keep_path.specs.Path.{key}
use Rattle.keep_rules.specs.LinePlaces.{IsPlaceOf}
use Rattle.keep_rules.specs.Lookup.{path_numbered}
use Rattle.keep_rules.proofs.QueryLemmas.{count_paths}
use Rattle.keep_rules.proofs.index.Index.insert_line.Goals as goal

pub insert_key-requires : goal.insert_key-requires
insert_key-requires c =
    omega (arith, c.requires, count_paths c.self.inside.nodes c.args.self.now c.self.invariant.0 c.self.view_is)

pub returns-clause-inserted : goal.returns-clause-inserted
returns-clause-inserted c =
    OnOk-map c.insert_key.result _ _ (λ is at from.
    let there =
    c.first_met_from-at.ensures.place at (subst (λ (x : NodeInfos). IsPlaceOf (numbers_of c.args.line) x.infos at)
    (sym c.self.view_is) from) in
    is
    ∙ ap (λ n.
    with_node (node_infos c.self.inside.nodes) n (numbers_of c.args.line)
    (path_numbered (node_infos c.self.inside.nodes) c.args.parent.0 ++ key c.args.text.now ∷ []) c.args.kind) there
    ∙ ap (λ (x : NodeInfos).
    with_node x at (numbers_of c.args.line) (path_numbered x c.args.parent.0 ++ key c.args.text.now ∷ []) c.args.kind)
    c.self.view_is) c.insert_key.ensures.inserted
