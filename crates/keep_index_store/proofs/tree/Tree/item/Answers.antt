use Rattle.keep_index_store.proofs.TreeLemmas.{item_seen}
use Rattle.keep_index_store.proofs.tree.Tree.item.Goals as goal

pub returns : goal.returns
returns c =
    item_seen c.self.inside.nodes.items c.args.self.now c.self.view_is c.self.invariant c.args.id c.requires
    c.args.number c.item.result c.item.ensures
