use Rattle.std.proofs.Common.{◌∙◌, ap, arith}
use Rattle.std.proofs.lemmas.List.{length-set}
use Rattle.indexmap.proofs.MapLemmas.{OnOk-map}
use Rattle.keep_index_store.specs.AllNodes.{with_children, and_item}
use Rattle.keep_index_store.specs.Children.{ChildList, holds_of}
use Rattle.keep_index_store.proofs.NodeRowLemmas.{count_seen, children_read, children_set}
use Rattle.keep_index_store.proofs.nodes.Nodes.link_item.Goals as goal

pub index_mut-above-requires : goal.index_mut-above-requires
index_mut-above-requires c =
    omega (arith, c.requires.within, count_seen _ _ _ c.self.view_is c.self.invariant, c.self.inside.list.ok.0)

pub add_item-requires : goal.add_item-requires
add_item-requires c =
    ap holds_of (children_read _ _ _ c.self.view_is c.self.invariant c.args.id c.requires.within
    c.index_mut-above.result.now c.index_mut-above.ensures.value) ∙ c.requires.holds

pub invariant_of-self : goal.invariant_of-self
invariant_of-self c =
    omega (
      arith,
      c.self.invariant,
      length-set c.self.inside.list.items c.args.id
          (record c.index_mut-above.result.now { children = c.add_item.new.self }),
    )

pub returns-clause-ok : goal.returns-clause-ok
returns-clause-ok c =
    let above = c.index_mut-above.result.now in
    OnOk-map c.add_item.result _ _ (λ added.
    children_set _ _ _ c.self.view_is c.self.invariant c.args.id c.requires.within above c.add_item.new.self
    c.index_mut-above.ensures.value
    ∙ ap (λ (x : ChildList). with_children c.args.self.now.items c.args.id x)
    (added ∙ ap (λ (x : ChildList). and_item x c.args.child)
    (children_read _ _ _ c.self.view_is c.self.invariant c.args.id c.requires.within above
    c.index_mut-above.ensures.value)))
    c.add_item.ensures.ok
