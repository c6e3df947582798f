-- The first new key's node comes where the search finds its place.
use Rattle.std.proofs.Common.{◌≡◌, ℕ, List, ◌∷◌, ◌++◌, [], ◌∙◌, ap, arith, map, subst, sym}
use Rattle.indexmap.proofs.MapLemmas.{OnOk-map}
use Rattle.keep_index_store.specs.Below.{totals_in}
use Rattle.keep_index_store.specs.Renumbering.{numbers_of}
use Rattle.keep_index_store.specs.Tree.{node_infos}
use Rattle.keep_meaning.specs.Nodes.{node_number}
use Rattle.keep_path.specs.Dots.{after_parts, totals_after_parts, with_dots, with_keys, with_parts_from}
use Rattle.keep_path.specs.KeysAlone.{paths_below}
use Rattle.keep_path.specs.NodeInfos.{NodeInfos}
use Rattle.keep_path.specs.Path.{key}
use Rattle.keep_rules.specs.LinePlaces.{IsPlaceOf}
use Rattle.keep_rules.specs.Lookup.{path_numbered}
use Rattle.keep_rules.specs.PassedTables.{ArePassed}
use Rattle.keep_rules.proofs.QueryLemmas.{count_paths}
use Rattle.keep_rules.proofs.index.Index.insert_keys.Goals as goal

pub insert_past-requires-clause-parent : goal.insert_past-requires-clause-parent
insert_past-requires-clause-parent c =
    omega (arith, c.requires, count_paths c.self.inside.nodes c.args.self.now c.self.invariant.0 c.self.view_is)

pub returns-clause-inserted : goal.returns-clause-inserted
returns-clause-inserted c =
    let old : NodeInfos = node_infos c.self.inside.nodes in
    let now : NodeInfos = c.args.self.now in
    let same : old ≡ now = c.self.view_is in
    let count : ℕ = c.args.keys.passed in
    let after : NodeInfos → ℕ → List ℕ → List (List ℕ) → List ℕ → NodeInfos = λ t at first further ids.
    with_dots c.args.line.value ids
    (with_keys (with_parts_from c.args.line.key count t) at (after_parts count (numbers_of c.args.line))
    (path_numbered t c.args.parent.0 ++ key first ∷ []) further c.args.kind
    (totals_after_parts count (totals_in c.args.old)) (totals_in c.args.new)) in
    OnOk-map c.insert_past.result _ _ (λ is at from first further are base passed ids here many numbered.
    let there =
    c.first_met_from-at.ensures.place at (subst (λ (x : NodeInfos). IsPlaceOf (numbers_of c.args.line) x.infos at)
    (sym same) from) in
    is first further are base passed ids (ap (λ (t : NodeInfos). path_numbered t c.args.parent.0) same ∙ here) many
    (ap (λ (t : NodeInfos). map (node_number t.paths) (paths_below base passed)) same ∙ numbered)
    ∙ ap (λ (n : ℕ). after old n first further ids) there
    ∙ ap (λ (t : NodeInfos). after t at first further ids) same) c.insert_past.ensures.inserted

pub returns-clause-passed : goal.returns-clause-passed
returns-clause-passed c =
    let same : node_infos c.self.inside.nodes ≡ c.args.self.now = c.self.view_is in
    OnOk-map c.insert_past.result _ _ (λ are at from base passed here many.
    let there =
    c.first_met_from-at.ensures.place at (subst (λ (x : NodeInfos). IsPlaceOf (numbers_of c.args.line) x.infos at)
    (sym same) from) in
    subst (λ (t : NodeInfos). (ids : List ℕ) × ArePassed t at (paths_below base passed) ids) same
    (subst (λ (n : ℕ). (ids : List ℕ) × ArePassed (node_infos c.self.inside.nodes) n (paths_below base passed) ids)
    there (are base passed (ap (λ (t : NodeInfos). path_numbered t c.args.parent.0) same ∙ here) many)))
    c.insert_past.ensures.passed
