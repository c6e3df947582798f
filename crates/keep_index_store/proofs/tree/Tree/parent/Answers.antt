use Rattle.std.proofs.Common.{◌∙◌, arith}
use Rattle.keep_index_store.specs.AllNodes.{no_node}
use Rattle.keep_index_store.proofs.StoredLemmas.{node_placed}
use Rattle.keep_index_store.proofs.TreeLemmas.{low, parent_seen}
use Rattle.keep_index_store.proofs.tree.Tree.parent.Goals as goal

pub returns-clause-parent : goal.returns-clause-parent
returns-clause-parent c =
    c.parent.ensures
    ∙ parent_seen c.self.inside.nodes.items c.args.self.now c.self.view_is c.self.invariant c.args.id c.requires

pub returns-clause-earlier : goal.returns-clause-earlier
returns-clause-earlier c = λ later.
    omega (
      arith,
      c.parent.ensures,
      (node_placed c.self.inside.nodes.items c.self.invariant c.args.id no_node later
          (low c.self.inside.nodes.items c.args.self.now c.self.view_is c.self.invariant c.args.id c.requires)).earlier,
    )
