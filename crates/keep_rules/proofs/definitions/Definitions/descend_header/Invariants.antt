use Rattle.std.proofs.Common.{[], take}
use Rattle.keep_rules.specs.Steps.{HeaderDescent}
use Rattle.keep_rules.specs.AddedInfos.{HeaderAdds}
use Rattle.keep_rules.specs.Descents.{descent_mentions}
use Rattle.keep_rules.proofs.definitions.Definitions.descend_header.Given as goal

abbrev pub invariant-loop-number : goal.invariant-loop-number
invariant-loop-number l = record {
  walked : HeaderDescent l.fn.self.tree.trie l.self.tree.trie l.at (take l.number l.keys.texts);
  facts : HeaderAdds l.fn.self.tree l.self.tree l.keys.first l.fn.statement
      (λ tables. descent_mentions tables [] (take l.number l.keys.texts));
}
