-- The keys before this one have their tables.
use Rattle.keep_rules.proofs.KeysAloneLemmas.{IsChain}
use Rattle.keep_rules.proofs.index.new_keys.nodes_of_keys.Given as goal

abbrev pub invariant-loop-number : goal.invariant-loop-number
invariant-loop-number l = IsChain l.path l.from l.number l.nodes
