use Rattle.std.proofs.Common.{◌<◌, arith}
use Rattle.keep_index_store.specs.AllNodes.{no_node}
use Rattle.keep_index_store.proofs.StoredLemmas.{node_placed}
use Rattle.keep_index_store.proofs.nodes.Nodes.run_below.Goals as goal

pub takes_keys-requires : goal.takes_keys-requires
takes_keys-requires c =
    let later : 0 < c.args.id = omega (arith, c.if-id-eq0.false) in
    omega (
      arith,
      c.parent.ensures,
      (node_placed c.args.self.now.items c.requires.stored c.args.id no_node later c.requires.within).earlier,
      c.requires.within,
    )
