use Rattle.std.proofs.Common.{◌∙◌}
use Rattle.keep_index_store.proofs.TreeLemmas.{indexed_seen}
use Rattle.keep_index_store.proofs.tree.Tree.child_at.Goals as goal

pub returns-clause-indexed : goal.returns-clause-indexed
returns-clause-indexed c =
    λ k is. c.child_at.ensures
    ∙ indexed_seen c.self.inside.nodes.items c.args.self.now c.self.view_is c.self.invariant c.args.id c.requires
    c.args.number k is
