use Rattle.std.proofs.Common.{◌≡◌, ℕ, ◌<◌, List, ◌∙◌, ap, arith, get_or, length, set, subst, sym, rules}
use Rattle.std.proofs.lemmas.List.{get_or_default}
use Rattle.std.proofs.lemmas.List.Edits.{map_over_more}
use Rattle.keep_index_store.specs.declared.nodes.Node.{Node as StoredNode}
use Rattle.keep_index_store.specs.Children.{ChildList}
use Rattle.keep_index_store.specs.Below.{shifted_children}
use Rattle.keep_index_store.specs.Replacing.{CanShiftChildren, with_shifted_children}
use Rattle.keep_index_store.proofs.MovedListLemmas.{partly_at, partly_count}
use Rattle.keep_index_store.proofs.SameCountLemmas.{nodes_same}
use Rattle.keep_index_store.proofs.nodes.taking_in.shift_children.Goals as goal

pub loop-node-preserved : goal.loop-node-preserved
loop-node-preserved c =
    let f = with_shifted_children c.args.by in
    let now : List StoredNode = c.args.list.now in
    let list : List StoredNode = c.loop-node.list in
    let i : ℕ = c.loop-node.node-index in
    let low : i < length now = omega (arith, c.loop-node-test.true) in
    let many : length list ≡ length now = partly_count f now list i c.loop-node.invariant (omega (arith, low)) in
    let x : StoredNode = get_or list i c.node-item.result in
    let by : c.shift.new.self ≡ shifted_children c.args.by x.children = search rules in
    ap (λ (k : ChildList). let n : StoredNode = record { children = k; facts = x.facts } in set list i n) by
    ∙ map_over_more f now list i x low c.loop-node.invariant
    (get_or_default list i c.node-item.result x (omega (arith, low, many)))

pub shift-requires : goal.shift-requires
shift-requires c =
    let f = with_shifted_children c.args.by in
    let now : List StoredNode = c.args.list.now in
    let list : List StoredNode = c.loop-node.list in
    let i : ℕ = c.loop-node.node-index in
    let low : i < length now = omega (arith, c.loop-node-test.true) in
    let d : StoredNode = c.node-item.result in
    subst (λ (n : StoredNode). CanShiftChildren c.args.by n.children)
    (sym (partly_at f now list i c.loop-node.invariant d low)) (c.requires i d low)

pub returns-then-by : goal.returns-then-by
returns-then-by c = sym (nodes_same c.args.by c.if-by.true c.args.list.now)
