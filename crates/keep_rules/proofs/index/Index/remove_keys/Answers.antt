use Rattle.std.proofs.Common.{◌≡◌, ℕ, List, ◌∙◌, ap, arith, map, subst, sym}
use Rattle.indexmap.proofs.MapLemmas.{OnOk-map}
use Rattle.keep_types.specs.declared.node.Kind.{Kind}
use Rattle.keep_index_store.specs.Below.{totals_in}
use Rattle.keep_index_store.specs.Renumbering.{numbers_of}
use Rattle.keep_index_store.specs.Tree.{node_infos}
use Rattle.keep_meaning.specs.DotsLess.{without_dots}
use Rattle.keep_meaning.specs.Nodes.{node_number}
use Rattle.keep_path.specs.Dots.{without_keys}
use Rattle.keep_path.specs.KeysAlone.{paths_below}
use Rattle.keep_path.specs.NodeInfos.{NodeInfos}
use Rattle.keep_path.specs.NodesBelow.{AreBelow}
use Rattle.keep_rules.specs.Lookup.{path_numbered}
use Rattle.keep_rules.proofs.QueryLemmas.{count_paths}
use Rattle.keep_rules.proofs.index.Index.remove_keys.Goals as goal

pub remove_past-requires-clause-within : goal.remove_past-requires-clause-within
remove_past-requires-clause-within c =
    omega (arith, c.requires, count_paths c.self.inside.nodes c.args.self.now c.self.invariant.0 c.self.view_is)

pub returns-clause-removed : goal.returns-clause-removed
returns-clause-removed c =
    let same : node_infos c.self.inside.nodes ≡ c.args.self.now = c.self.view_is in
    let after : NodeInfos → List ℕ → ℕ → Kind → NodeInfos = λ t ids gone kind.
    without_dots ids
    (without_keys t c.args.node.0 gone c.args.passed (numbers_of c.args.line) (totals_in c.args.old)
    (totals_in c.args.new) kind) in
    OnOk-map c.remove_past.result _ _ (λ is base keys first ids here many numbered gone kind are.
    is base keys first ids (ap (λ (t : NodeInfos). path_numbered t c.args.node.0) same ∙ here) many
    (ap (λ (t : NodeInfos). map (node_number t.paths) (paths_below base keys)) same ∙ numbered) gone kind
    (subst (λ (t : NodeInfos). AreBelow t.paths c.args.node.0 gone) (sym same) are)
    ∙ ap (λ (t : NodeInfos). after t ids gone kind) same) c.remove_past.ensures.removed
