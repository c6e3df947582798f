use Rattle.std.proofs.Common.{arith, ap, ◌∙◌}
use Rattle.std.specs.Prelude.{slice_get, option_map}
use Rattle.keep_index_store.specs.Children.{ChildList, named}
use Rattle.keep_index_store.proofs.NodeRowLemmas.{count_seen, children_read}
use Rattle.keep_index_store.proofs.nodes.Nodes.key_at.Goals as goal

pub index-requires : goal.index-requires
index-requires c = omega (arith, c.requires, count_seen _ _ _ c.self.view_is c.self.invariant, c.self.inside.list.ok.0)

pub returns : goal.returns
returns c =
    c.key_at.ensures
    ∙ ap (λ (x : ChildList). option_map (λ e. e.0) (slice_get (named x) c.args.number))
    (children_read _ _ _ c.self.view_is c.self.invariant c.args.id c.requires c.index.result.now c.index.ensures)
