-- The lower tables have a mention less, and the others can give theirs.
use Rattle.std.proofs.Common.{◌≡◌, ◌-◌, ◌<◌, length}
use Rattle.std.specs.Prelude.{All}
use Rattle.keep_index_store.specs.DotsLess.{AreGivers, HasSmallValue, all_less_mentioned}
use Rattle.keep_index_store.proofs.tree.Tree.take_mentions.Given as goal

abbrev pub invariant-loop-number : goal.invariant-loop-number
invariant-loop-number l = record {
  same : l.self.trie ≡ l.fn.self.trie;
  within : l.id < length l.self.trie;
  tables : AreGivers l.self l.id (l.count - l.number);
  small : All HasSmallValue l.self.infos;
  left : all_less_mentioned l.id (l.count - l.number) l.self ≡ all_less_mentioned l.last l.count l.fn.self;
}
