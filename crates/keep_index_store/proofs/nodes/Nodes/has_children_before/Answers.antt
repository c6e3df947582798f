use Rattle.std.proofs.Common.{◌≡◌, ◌-◌, ℕ, List, Some, subst, sym, ◌∙◌, rules}
use Rattle.std.specs.Prelude.{slice_get}
use Rattle.std.proofs.lemmas.Option.{get_or_from_slice_get}
use Rattle.keep_index_store.specs.AllNodes.{node_at}
use Rattle.keep_index_store.specs.Children.{child_ids}
use Rattle.keep_index_store.proofs.LastChildLemmas.{before_end}
use Rattle.keep_index_store.proofs.nodes.Nodes.has_children_before.Goals as goal

pub returns : goal.returns
returns c = λ low.
    let ids : List ℕ = child_ids (node_at c.args.self.now.items c.args.id).children in
    let at : c.in-Some.number ≡ c.child_count.result - 1 = search rules in
    let there : slice_get ids (c.child_count.result - 1) ≡ Some c.in-Some-child_at.child =
    subst (λ (n : ℕ). slice_get ids n ≡ Some c.in-Some-child_at.child) at
    (sym c.child_at.ensures ∙ c.in-Some-child_at.is) in
    before_end c.args.self.now.items c.requires.stored c.args.id c.args.end c.child_count.result
    c.in-Some-child_at.child
    c.requires.within (sym c.child_count.ensures)
    (get_or_from_slice_get ids (c.child_count.result - 1) c.in-Some-child_at.child 0 there) (search rules)
