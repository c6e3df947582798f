use Rattle.std.proofs.Common.{arith}
use Rattle.keep_rules.proofs.QueryLemmas.{count_paths}
use Rattle.keep_rules.proofs.index.Index.path_of.Goals as goal

pub path_to-requires-clause-node : goal.path_to-requires-clause-node
path_to-requires-clause-node c = record {
  trie = c.self.invariant.0;
  within = omega (arith, c.requires, count_paths c.self.inside.nodes c.args.self.now c.self.invariant.0 c.self.view_is);
}
