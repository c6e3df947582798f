-- The children of each node ascend, also without the key that goes.
use Rattle.std.proofs.Common.{◌≡◌, ◌∙◌, All, List, subst, sym}
use Rattle.std.specs.List.{remove}
use Rattle.std.proofs.lemmas.List.{get_or_default}
use Rattle.std.proofs.lemmas.List.Elements.{All-set, All-weaker}
use Rattle.keep_index_store.specs.declared.nodes.Node.{Node as StoredNode}
use Rattle.keep_index_store.specs.Children.{ChildList, Keyed, child_ids, named}
use Rattle.keep_index_store.specs.Moved.{EndsLate, stored_at}
use Rattle.keep_index_store.proofs.AscendingLemmas.{Ascends, ascending_ends}
use Rattle.keep_index_store.proofs.NodeRowLemmas.{nothing}
use Rattle.keep_index_store.proofs.RemovedKeyLemmas.{rest_ascend}
use Rattle.keep_index_store.proofs.nodes.removing.remove_node.Goals as goal

pub renumber_children_earlier-requires-clause-ends : goal.renumber_children_earlier-requires-clause-ends
renumber_children_earlier-requires-clause-ends c =
    let list : List StoredNode = c.args.list.now.items in
    let read : StoredNode = c.index_mut-above.result.now in
    let after : StoredNode = record { children = c.remove_key.new.self; facts = read.facts } in
    let ascending = λ (n : StoredNode). Ascends (child_ids n.children) in
    let ends = λ (n : StoredNode). EndsLate c.args.at (child_ids n.children) in
    let same : read ≡ stored_at list c.args.gone.parent =
    c.index_mut-above.ensures.value ∙ get_or_default list c.args.gone.parent read nothing c.requires.within.0 in
    let rest : ascending after =
    subst (λ (k : ChildList). Ascends (child_ids k)) (sym c.remove_key.ensures)
    (subst (λ (x : StoredNode). Ascends (child_ids (Keyed (remove (named x.children) c.args.gone.number)))) (sym same)
    (rest_ascend (stored_at list c.args.gone.parent).children c.requires.holds
    (c.requires.ascend c.args.gone.parent nothing c.requires.within.0) c.args.gone.number c.requires.counted)) in
    subst (λ (ns : List StoredNode). All ends ns) (sym c.as_mut_slice.ensures.value)
    (All-weaker ascending ends (λ n a. ascending_ends (child_ids n.children) a c.args.at) _
    (All-set ascending list c.args.gone.parent after rest c.requires.ascend))
