use Rattle.std.proofs.Common.{◌≡◌, subst}
use Rattle.std.specs.Bool.{Decides}
use Rattle.keep_index_store.specs.Trie.{Holding, by_key}
use Rattle.keep_index_store.proofs.TreeLemmas.{holds_seen}
use Rattle.keep_index_store.proofs.tree.Tree.takes_keys.Goals as goal

pub returns : goal.returns
returns c =
    subst (λ (h : Holding). Decides c.takes_keys.result (h ≡ by_key))
    (holds_seen c.self.inside.nodes.items c.args.self.now c.self.view_is c.self.invariant c.args.id c.requires)
    c.takes_keys.ensures
