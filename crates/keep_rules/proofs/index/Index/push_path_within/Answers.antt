use Rattle.std.proofs.Common.{arith}
use Rattle.keep_rules.proofs.QueryLemmas.{count_paths}
use Rattle.keep_rules.proofs.index.Index.push_path_within.Goals as goal

pub push_path-requires : goal.push_path-requires
push_path-requires c = record {
  trie = c.self.invariant.0;
  within = omega (arith, c.requires, count_paths c.self.inside.nodes c.args.self.now c.self.invariant.0 c.self.view_is);
}
