use Rattle.keep_index_store.proofs.TreeLemmas.{key_seen}
use Rattle.keep_index_store.proofs.tree.Tree.child.Goals as goal

pub returns : goal.returns
returns c =
    key_seen c.self.inside.nodes.items c.args.self.now c.self.view_is c.self.invariant c.args.id c.requires
    c.args.text.now c.child.result c.child.ensures
