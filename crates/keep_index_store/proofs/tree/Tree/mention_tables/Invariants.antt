-- The tables before this one have their mention, and each of the others can take one.
use Rattle.std.proofs.Common.{◌≡◌, drop}
use Rattle.keep_path.specs.Dots.{with_dots}
use Rattle.keep_index_store.specs.Dots.{AreTakers}
use Rattle.keep_index_store.specs.Tree.{node_infos}
use Rattle.keep_index_store.proofs.tree.Tree.mention_tables.Given as goal

abbrev pub invariant-loop-id : goal.invariant-loop-id
invariant-loop-id l = record {
  same : l.self.trie ≡ l.fn.self.trie;
  takers : AreTakers l.self.infos (drop l.id-index l.tables);
  left : with_dots l.value (drop l.id-index l.tables) (node_infos l.self)
      ≡ with_dots l.value l.tables (node_infos l.fn.self);
}
