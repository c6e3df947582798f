use Rattle.std.proofs.Common.{◌∙◌}
use Rattle.keep_index_store.proofs.TreeLemmas.{number_seen}
use Rattle.keep_index_store.proofs.tree.Tree.number.Goals as goal

pub returns : goal.returns
returns c =
    λ n is. c.number.ensures
    ∙ number_seen c.self.inside.nodes.items c.args.self.now c.self.view_is c.self.invariant c.args.id c.requires.within
    c.requires.later n is
