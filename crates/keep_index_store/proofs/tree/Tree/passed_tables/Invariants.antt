-- The tables found so far are passed, and turned around they come after those that are left.
use Rattle.std.proofs.Common.{◌≡◌, ◌-◌, ◌≤◌, ◌++◌, length}
use Rattle.std.specs.Prelude.{All, reverse}
use Rattle.keep_index_store.specs.Dots.{IsPassed, up_from}
use Rattle.keep_index_store.proofs.tree.Tree.passed_tables.Given as goal

abbrev pub invariant-loop-number : goal.invariant-loop-number
invariant-loop-number l = record {
  up_to : l.id ≤ l.last;
  counted : length l.tables.items ≡ l.number;
  passed : All (IsPassed l.count l.self.infos l.last) l.tables.items;
  left : up_from l.self.trie l.id (l.count - l.number) ++ reverse l.tables.items
      ≡ up_from l.self.trie l.last l.count;
}
