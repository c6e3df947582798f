use Rattle.std.proofs.Common.{◌∙◌}
use Rattle.keep_index_store.proofs.TreeLemmas.{role_seen}
use Rattle.keep_index_store.proofs.tree.Tree.role.Goals as goal

pub returns : goal.returns
returns c =
    c.role.ensures
    ∙ role_seen c.self.inside.nodes.items c.args.self.now c.self.view_is c.self.invariant c.args.id c.requires
