use Rattle.std.proofs.Common.{◌≡◌, ◌∙◌, ℕ, ◌<◌, List, ap, arith, get_or, length, rules, set, subst, sym}
use Rattle.std.proofs.lemmas.List.{get_or_default}
use Rattle.std.proofs.lemmas.List.Edits.{map_over_more}
use Rattle.keep_index_store.specs.declared.facts.NodeFacts.{NodeFacts}
use Rattle.keep_index_store.specs.declared.nodes.Node.{Node as StoredNode}
use Rattle.keep_index_store.specs.Below.{shifted_facts, with_shifted_stored}
use Rattle.keep_index_store.specs.Dots.{IsLowering}
use Rattle.keep_index_store.proofs.MovedListLemmas.{partly_count}
use Rattle.keep_index_store.proofs.nodes.shifting.lower_each.Goals as goal

pub lower-requires : goal.lower-requires
lower-requires c = subst IsLowering (sym c.of-first.ensures) c.requires

pub loop-node-preserved : goal.loop-node-preserved
loop-node-preserved c =
    let f = with_shifted_stored c.args.by in
    let now : List StoredNode = c.args.nodes.now in
    let list : List StoredNode = c.loop-node.nodes in
    let i : ℕ = c.loop-node.node-index in
    let low : i < length now = omega (arith, c.loop-node-test.true) in
    let many : length list ≡ length now = partly_count f now list i c.loop-node.invariant (omega (arith, low)) in
    let x : StoredNode = get_or list i c.node-item.result in
    let by : c.lower.new.self ≡ shifted_facts c.args.by x.facts = search rules in
    ap (λ (t : NodeFacts). let n : StoredNode = record { children = x.children; facts = t } in set list i n) by
    ∙ map_over_more f now list i x low c.loop-node.invariant
    (get_or_default list i c.node-item.result x (omega (arith, low, many)))
