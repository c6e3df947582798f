use Rattle.std.proofs.Common.{◌≡◌, ◌<◌, ◌+◌, ◌++◌, suc, All, List, length, ap, ◌∙◌, arith, drop, map, set, subst, sym}
use Rattle.std.proofs.Common.{take}
use Rattle.std.proofs.lemmas.List.{with_items_is}
use Rattle.keep_index_store.specs.declared.nodes.Node.{Node as StoredNode}
use Rattle.keep_path.specs.NodesBelow.{spliced}
use Rattle.keep_index_store.specs.declared.facts.NodeFacts.{NodeFacts}
use Rattle.keep_index_store.specs.Below.{shift_inside}
use Rattle.keep_index_store.specs.Moved.{stored_at}
use Rattle.keep_index_store.specs.Replacing.{CanShiftChildren, with_shifted_children}
use Rattle.keep_index_store.proofs.ReplacedNodeLemmas.{nodes_replaced}
use Rattle.keep_index_store.proofs.nodes.taking_in.replace_nodes.Goals as goal

pub shift_beside-requires-clause-after : goal.shift_beside-requires-clause-after
shift_beside-requires-clause-after c =
    let past : suc c.args.id + c.args.gone ≡ c.args.id + c.args.gone + 1 = omega arith in
    let each = λ (n : StoredNode). CanShiftChildren c.args.beside n.children in
    subst (λ n. All each (drop n c.as_mut_slice.result.now)) past
    (subst (λ (ns : List StoredNode). All each (drop (suc c.args.id + c.args.gone) ns))
    (sym c.as_mut_slice.ensures.value)
    c.requires.after)

pub returns : goal.returns
returns c =
    let id = c.args.id in
    let gone = c.args.gone in
    let list : List StoredNode = c.args.list.now.items in
    let inside : List StoredNode = c.args.inside.items in
    let moved : List StoredNode = c.shift_beside.new.list in
    let moved_inside : List StoredNode = c.shift_children.new.list in
    let list' : List StoredNode = take c.args.list.now.len (moved ++ drop (length moved) list) in
    let inside' : List StoredNode = take c.args.inside.len (moved_inside ++ drop (length moved_inside) inside) in
    let value : c.as_mut_slice.result.now ≡ list = c.as_mut_slice.ensures.value in
    let value_inside : c.as_mut_slice-2.result.now ≡ inside = c.as_mut_slice-2.ensures.value in
    let many : length moved ≡ c.args.list.now.len =
    omega (arith, c.shift_beside.auto.list, ap length value, c.args.list.now.ok.0) in
    let many_inside : length moved_inside ≡ c.args.inside.len =
    omega (arith, c.shift_children.auto.list, ap length value_inside, c.args.inside.ok.0) in
    let is : list' ≡ moved = with_items_is c.args.list.now moved many in
    let is_inside : inside' ≡ moved_inside = with_items_is c.args.inside moved_inside many_inside in
    let f = with_shifted_children (shift_inside id) in
    let g = with_shifted_children c.args.beside in
    let before : take id list' ≡ map g (take id list) =
    ap (take id) is ∙ c.shift_beside.ensures.before ∙ ap (λ (ns : List StoredNode). map g (take id ns)) value in
    let after : drop (id + gone + 1) list' ≡ map g (drop (id + gone + 1) list) =
    ap (drop (id + gone + 1)) is ∙ c.shift_beside.ensures.after
    ∙ ap (λ (ns : List StoredNode). map g (drop (id + gone + 1) ns)) value in
    let same : stored_at list' id ≡ stored_at list id =
    ap (λ (ns : List StoredNode). stored_at ns id) is ∙ c.shift_beside.ensures.own (omega arith)
    ∙ ap (λ (ns : List StoredNode). stored_at ns id) value in
    let by : inside' ≡ map f inside = is_inside ∙ c.shift_children.ensures ∙ ap (map f) value_inside in
    let some : 0 < length inside = omega (arith, c.requires.within.1, c.args.inside.ok.0) in
    let low : id < length list' = omega (arith, ap length is, many, c.requires.within.0) in
    let node : StoredNode = c.index_mut-node.result.now in
    let root : StoredNode = c.index_mut-root.result.now in
    let next : StoredNode = record { children = node.children; facts = c.swap.new.x } in
    let one : gone + 1 ≡ suc gone = omega arith in
    c.splice_in.ensures
    ∙ ap (λ (t : NodeFacts).
    let n : StoredNode = record { children = root.children; facts = t } in
    spliced id (gone + 1) (set inside' 0 n) (set list' id next)) c.swap.ensures.y_after
    ∙ nodes_replaced c.args.beside id gone list inside list' inside' before after same by some low node root next
    (gone + 1) one c.index_mut-node.ensures.value c.index_mut-root.ensures.value
