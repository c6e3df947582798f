use Rattle.std.proofs.Common.{length, arith}
use Rattle.keep_rules.proofs.QueryLemmas.{count_paths, node_there, node_past}
use Rattle.keep_rules.proofs.index.Index.node_at.Goals as goal

pub returns-then-number-len : goal.returns-then-number-len
returns-then-number-len c = record {
  found = node_there c.args.number (length c.args.self.now.paths)
      (omega (arith, count_paths c.self.inside.nodes c.args.self.now c.self.invariant.0 c.self.view_is));
  within = omega (arith, count_paths c.self.inside.nodes c.args.self.now c.self.invariant.0 c.self.view_is);
}

pub returns-else-number-len : goal.returns-else-number-len
returns-else-number-len c = record {
  found = node_past c.args.number (length c.args.self.now.paths)
      (omega (arith, count_paths c.self.inside.nodes c.args.self.now c.self.invariant.0 c.self.view_is));
  within = tt;
}
