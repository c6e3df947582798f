use Rattle.std.proofs.Common.{◌∙◌, ap, sym}
use Rattle.indexmap.proofs.MapLemmas.{OnOk-map}
use Rattle.keep_path.specs.Path.{key, index}
use Rattle.keep_rules.proofs.ClimbLemmas.{step_last, index_below}
use Rattle.keep_rules.proofs.queries.push_step.Goals as goal

pub push_index-requires : goal.push_index-requires
push_index-requires c =
    index_below c.args.nodes.now.trie c.in-None.ensures.trie c.args.id c.requires.node.later c.requires.node.within
    c.args.path.now c.in-None.ensures.above c.requires.above c.requires.rooted

pub returns-in-Some : goal.returns-in-Some
returns-in-Some c =
    let last =
    step_last c.args.nodes.now.trie c.in-Some.ensures.trie c.args.id c.requires.node.later c.requires.node.within
    c.args.path.now (key c.in-Some.key.now) c.in-Some.ensures.some c.requires.above in
    OnOk-map c.push_key.result _ _ (λ is. is ∙ last) c.push_key.ensures.pushed

pub returns-in-None : goal.returns-in-None
returns-in-None c =
    let part = c.in-None.ensures.none.1 ∙ ap index (sym (c.number.ensures _ c.in-None.ensures.none.1)) in
    let last =
    step_last c.args.nodes.now.trie c.in-None.ensures.trie c.args.id c.requires.node.later c.requires.node.within
    c.args.path.now (index c.number.result) part c.requires.above in
    OnOk-map c.push_index.result _ _ (λ is. is ∙ last) c.push_index.ensures.pushed
