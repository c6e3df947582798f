use Rattle.keep_rules.proofs.QueryLemmas.{IsAt}
use Rattle.keep_rules.proofs.index.Index.find_first.Given as goal

abbrev pub invariant-loop-number : goal.invariant-loop-number
invariant-loop-number l = IsAt l.self l.path l.number l.id
