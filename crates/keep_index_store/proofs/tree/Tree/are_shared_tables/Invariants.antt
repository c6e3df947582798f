-- If the others are such tables, all are.
use Rattle.std.proofs.Common.{◌-◌, ◌<◌, length}
use Rattle.keep_index_store.specs.DotsLess.{AreGivers}
use Rattle.keep_index_store.proofs.tree.Tree.are_shared_tables.Given as goal

abbrev pub invariant-loop-number : goal.invariant-loop-number
invariant-loop-number l = record {
  within : l.id < length l.self.trie;
  left : AreGivers l.self l.id (l.count - l.number) → AreGivers l.self l.last l.count;
}
