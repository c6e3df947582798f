use Rattle.std.proofs.Common.{arith, ap, ◌∙◌}
use Rattle.keep_index_store.specs.Children.{ChildList, child_named}
use Rattle.keep_index_store.proofs.NodeRowLemmas.{count_seen, children_read}
use Rattle.keep_index_store.proofs.nodes.Nodes.child.Goals as goal

pub index-requires : goal.index-requires
index-requires c = omega (arith, c.requires, count_seen _ _ _ c.self.view_is c.self.invariant, c.self.inside.list.ok.0)

pub returns : goal.returns
returns c =
    c.child.ensures
    ∙ ap (λ (x : ChildList). child_named x c.args.text.now)
    (children_read _ _ _ c.self.view_is c.self.invariant c.args.id c.requires c.index.result.now c.index.ensures)
