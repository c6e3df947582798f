use Rattle.std.proofs.Common.{◌≡◌, ◌-◌, ◌∙◌, ◌<◌, [], All, List, ap, arith, drop, get_or, length, map, set, subst, sym}
use Rattle.std.proofs.lemmas.List.{get_or_default, length-set}
use Rattle.keep_index_store.specs.declared.links.NewPlace.{NewPlace}
use Rattle.keep_index_store.specs.declared.nodes.Node.{Node as StoredNode}
use Rattle.keep_index_store.specs.Children.{ChildList, Keyed, named}
use Rattle.keep_index_store.specs.Moved.{CanMove, stored_at, with_last_at, with_last_key, with_moved_children}
use Rattle.keep_index_store.proofs.MovedListLemmas.{map-last}
use Rattle.keep_index_store.proofs.NodeRowLemmas.{nothing}
use Rattle.keep_index_store.proofs.SplicedLemmas.{take_prefix}
use Rattle.keep_index_store.proofs.nodes.move_last_node.Goals as goal

-- the nodes, where the last key of one has moved
key_moved : (list now : List StoredNode) (place : NewPlace) (read : StoredNode) (next : ChildList)
    → place.above < length list → read ≡ get_or list place.above read
    → now ≡ set list place.above (record read { children = next })
    → next ≡ Keyed (with_last_at ([], 0) (named read.children) place.number) → now ≡ with_last_key list place
key_moved list now place read next low own is keyed =
    let same : read ≡ stored_at list place.above = own ∙ get_or_default list place.above read nothing low in
    is
    ∙ ap (λ (k : ChildList). let x : StoredNode = record { children = k; facts = read.facts } in set list place.above x)
    keyed
    ∙ ap (λ (y : StoredNode).
    let k : ChildList = Keyed (with_last_at ([], 0) (named y.children) place.number) in
    let x : StoredNode = record { children = k; facts = y.facts } in
    set list place.above x) same

pub renumber_children-requires : goal.renumber_children-requires
renumber_children-requires c =
    let list : List StoredNode = c.args.list.now.items in
    let at = c.args.place.at in
    let last : length list - 1 ≡ c.len-last.result - 1 = omega (arith, c.len-last.ensures, c.args.list.now.ok.0) in
    let is : c.as_mut_slice.result.now ≡ with_last_key list c.args.place =
    key_moved list c.as_mut_slice.result.now c.args.place c.index_mut-above.result.now c.move_last_key.new.self
    c.requires.within.0 c.index_mut-above.ensures.value c.as_mut_slice.ensures.value c.move_last_key.ensures in
    subst (λ n. All (λ (m : StoredNode). CanMove n at m.children) c.as_mut_slice.result.now) last
    (subst (λ (ls : List StoredNode). All (λ m. CanMove (length list - 1) at m.children) ls) (sym is) c.requires.each)

pub returns-clause-moved : goal.returns-clause-moved
returns-clause-moved c none =
    let list : List StoredNode = c.args.list.now.items in
    let at = c.args.place.at in
    let last : c.len-last.result - 1 ≡ length list - 1 = omega (arith, c.len-last.ensures, c.args.list.now.ok.0) in
    let keyed : List StoredNode = with_last_key list c.args.place in
    let read : StoredNode = c.index_mut-above.result.now in
    let is : c.as_mut_slice.result.now ≡ keyed =
    key_moved list c.as_mut_slice.result.now c.args.place read c.move_last_key.new.self
    c.requires.within.0 c.index_mut-above.ensures.value c.as_mut_slice.ensures.value c.move_last_key.ensures in
    let f = with_moved_children (length list - 1) at in
    let moved : c.renumber_children.new.list ≡ map f keyed =
    c.renumber_children.ensures ∙ ap (λ n. map (with_moved_children n at) c.as_mut_slice.result.now) last
    ∙ ap (map f) is in
    let next : StoredNode = record { children = c.move_last_key.new.self; facts = read.facts } in
    let count : length c.as_mut_slice.result.now ≡ length list =
    ap length c.as_mut_slice.ensures.value ∙ length-set list c.args.place.above next in
    let many : length c.renumber_children.new.list ≡ c.args.list.now.len =
    omega (arith, c.renumber_children.auto.list, count, c.args.list.now.ok.0) in
    c.move_last_to.ensures.moved none
    ∙ ap (λ xs. with_last_at none xs at)
    (take_prefix c.renumber_children.new.list
    (drop (length c.renumber_children.new.list) (set list c.args.place.above next)) c.args.list.now.len many ∙ moved)
    ∙ sym (map-last f none none keyed at (omega (arith, ap length is, count, c.requires.within.0)))
