use Rattle.std.proofs.Common.{◌≡◌, ◌<◌, ◌-◌, ℕ, ◌∙◌, ap, arith, length, subst, sym}
use Rattle.std.specs.List.{remove}
use Rattle.keep_index_store.specs.AllNodes.{node_at, with_children}
use Rattle.keep_index_store.specs.Children.{ChildList, Keyed, child_ids, holds_of, named}
use Rattle.keep_index_store.proofs.NodeRowLemmas.{count_seen, children_read, children_set}
use Rattle.keep_index_store.proofs.StoredLemmas.{count_named}
use Rattle.keep_index_store.proofs.nodes.Nodes.unlink_last.Goals as goal

pub index_mut-above-requires : goal.index_mut-above-requires
index_mut-above-requires c =
    omega (arith, c.requires.within, count_seen _ _ _ c.self.view_is c.self.invariant, c.self.inside.list.ok.0)

pub remove_key-requires-clause-holds : goal.remove_key-requires-clause-holds
remove_key-requires-clause-holds c =
    ap holds_of (children_read _ _ _ c.self.view_is c.self.invariant c.args.id c.requires.within
    c.index_mut-above.result.now c.index_mut-above.ensures.value) ∙ c.requires.keyed

pub remove_key-requires-clause-within : goal.remove_key-requires-clause-within
remove_key-requires-clause-within c =
    let kids : ChildList = (node_at c.args.self.now.items c.args.id).children in
    let many : length (child_ids kids) ≡ length (named kids) = count_named kids c.requires.keyed in
    subst (λ (x : ChildList). c.child_count-last.result - 1 < length (named x))
    (sym (children_read _ _ _ c.self.view_is c.self.invariant c.args.id c.requires.within c.index_mut-above.result.now
    c.index_mut-above.ensures.value))
    (omega (arith, many, c.child_count-last.ensures, c.requires.some))

pub returns : goal.returns
returns c =
    let above = c.index_mut-above.result.now in
    let kids : ChildList = (node_at c.args.self.now.items c.args.id).children in
    let many : c.child_count-last.result ≡ length (named kids) =
    c.child_count-last.ensures ∙ count_named kids c.requires.keyed in
    children_set _ _ _ c.self.view_is c.self.invariant c.args.id c.requires.within above c.remove_key.new.self
    c.index_mut-above.ensures.value
    ∙ ap (λ (x : ChildList). with_children c.args.self.now.items c.args.id x)
    (c.remove_key.ensures
    ∙ ap (λ (x : ChildList). Keyed (remove (named x) (c.child_count-last.result - 1)))
    (children_read _ _ _ c.self.view_is c.self.invariant c.args.id c.requires.within above
    c.index_mut-above.ensures.value)
    ∙ ap (λ (n : ℕ). Keyed (remove (named kids) (n - 1))) many)
