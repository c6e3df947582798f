use Rattle.std.proofs.Common.{take}
use Rattle.keep_rules.specs.Steps.{DottedDescent}
use Rattle.keep_rules.specs.AddedInfos.{DottedAdds}
use Rattle.keep_index_store.specs.Trie.{path_at}
use Rattle.keep_rules.specs.Descents.{dotted_mentions}
use Rattle.keep_rules.proofs.definitions.Definitions.descend_dotted.Given as goal

abbrev pub invariant-loop-number : goal.invariant-loop-number
invariant-loop-number l = record {
  gone : DottedDescent l.fn.self.tree.trie l.self.tree.trie l.fn.table l.at (take l.number l.keys.texts);
  facts : DottedAdds l.fn.self.tree l.self.tree l.keys.first l.fn.value
      (dotted_mentions (path_at l.fn.self.tree.trie l.fn.table) (take l.number l.keys.texts));
}
