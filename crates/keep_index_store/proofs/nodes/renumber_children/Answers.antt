use Rattle.std.proofs.Common.{◌≡◌, ◌<◌, ◌∙◌, ap, arith, get_or, length, set, rules}
use Rattle.std.proofs.lemmas.List.{get_or_default}
use Rattle.std.proofs.lemmas.List.Edits.{map_over_more}
use Rattle.keep_index_store.specs.declared.nodes.Node.{Node as StoredNode}
use Rattle.keep_index_store.specs.Children.{ChildList}
use Rattle.keep_index_store.specs.Moved.{moved_children, with_moved_children}
use Rattle.keep_index_store.proofs.MovedListLemmas.{partly_count}
use Rattle.keep_index_store.proofs.nodes.renumber_children.Goals as goal

pub loop-node-preserved : goal.loop-node-preserved
loop-node-preserved c =
    let f = with_moved_children c.args.last c.args.at in
    let low : c.loop-node.node-index < length c.args.list.now = omega (arith, c.loop-node-test.true) in
    let many : length c.loop-node.list ≡ length c.args.list.now =
    partly_count f c.args.list.now c.loop-node.list c.loop-node.node-index c.loop-node.invariant (omega (arith, low)) in
    let x : StoredNode = get_or c.loop-node.list c.loop-node.node-index c.node-item.result in
    let by : c.renumber.new.self ≡ moved_children c.args.last c.args.at x.children = search rules in
    ap (λ (k : ChildList). let n : StoredNode = record { children = k; facts = x.facts } in
    set c.loop-node.list c.loop-node.node-index n) by
    ∙ map_over_more f c.args.list.now c.loop-node.list c.loop-node.node-index x low c.loop-node.invariant
    (get_or_default c.loop-node.list c.loop-node.node-index c.node-item.result x (omega (arith, low, many)))
