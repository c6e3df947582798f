use Rattle.std.proofs.Common.{◌<◌, ◌∙◌, ap, arith, length, subst, sym}
use Rattle.indexmap.proofs.MapLemmas.{OnOk-map}
use Rattle.keep_index_store.specs.AllNodes.{with_children, with_key}
use Rattle.keep_index_store.specs.Children.{ChildList, holds_of, named, child_named}
use Rattle.keep_index_store.proofs.NodeRowLemmas.{count_seen, children_read, children_set}
use Rattle.keep_index_store.proofs.nodes.Nodes.set_child_key.Goals as goal

pub index_mut-above-requires : goal.index_mut-above-requires
index_mut-above-requires c =
    omega (arith, c.requires.within, count_seen _ _ _ c.self.view_is c.self.invariant, c.self.inside.list.ok.0)

pub set_key-requires-clause-holds : goal.set_key-requires-clause-holds
set_key-requires-clause-holds c =
    ap holds_of (children_read _ _ _ c.self.view_is c.self.invariant c.args.id c.requires.within
    c.index_mut-above.result.now c.index_mut-above.ensures.value) ∙ c.requires.holds

pub set_key-requires-clause-within : goal.set_key-requires-clause-within
set_key-requires-clause-within c =
    subst (λ (x : ChildList). c.args.number < length (named x))
    (sym (children_read _ _ _ c.self.view_is c.self.invariant c.args.id c.requires.within c.index_mut-above.result.now
    c.index_mut-above.ensures.value)) c.requires.counted

pub set_key-requires-clause-fresh : goal.set_key-requires-clause-fresh
set_key-requires-clause-fresh c =
    ap (λ (x : ChildList). child_named x c.args.text.now)
    (children_read _ _ _ c.self.view_is c.self.invariant c.args.id c.requires.within c.index_mut-above.result.now
    c.index_mut-above.ensures.value) ∙ c.requires.fresh

pub returns-clause-ok : goal.returns-clause-ok
returns-clause-ok c =
    let above = c.index_mut-above.result.now in
    OnOk-map c.set_key.result _ _ (λ done.
    children_set _ _ _ c.self.view_is c.self.invariant c.args.id c.requires.within above c.set_key.new.self
    c.index_mut-above.ensures.value
    ∙ ap (λ (x : ChildList). with_children c.args.self.now.items c.args.id x)
    (done ∙ ap (λ (x : ChildList). with_key x c.args.number c.args.text.now)
    (children_read _ _ _ c.self.view_is c.self.invariant c.args.id c.requires.within above
    c.index_mut-above.ensures.value)))
    c.set_key.ensures.ok
