use Rattle.std.proofs.Common.{◌≡◌, arith, subst}
use Rattle.std.specs.Bool.{Decides}
use Rattle.keep_index_store.specs.Children.{ChildList, holds_of}
use Rattle.keep_index_store.specs.Trie.{by_key}
use Rattle.keep_index_store.proofs.NodeRowLemmas.{count_seen, children_read}
use Rattle.keep_index_store.proofs.nodes.Nodes.takes_keys.Goals as goal

pub index-requires : goal.index-requires
index-requires c = omega (arith, c.requires, count_seen _ _ _ c.self.view_is c.self.invariant, c.self.inside.list.ok.0)

pub returns : goal.returns
returns c =
    subst (λ (x : ChildList). Decides c.takes_keys.result (holds_of x ≡ by_key))
    (children_read _ _ _ c.self.view_is c.self.invariant c.args.id c.requires c.index.result.now c.index.ensures)
    c.takes_keys.ensures
