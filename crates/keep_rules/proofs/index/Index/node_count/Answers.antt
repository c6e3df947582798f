use Rattle.std.proofs.Common.{arith}
use Rattle.keep_rules.proofs.DocumentLemmas.{index_few}
use Rattle.keep_rules.proofs.QueryLemmas.{count_paths}
use Rattle.keep_rules.proofs.index.Index.node_count.Goals as goal

pub returns-clause-counted : goal.returns-clause-counted
returns-clause-counted c =
    omega (arith, count_paths c.self.inside.nodes c.args.self.now c.self.invariant.0 c.self.view_is)

pub returns-clause-few : goal.returns-clause-few
returns-clause-few c =
    λ bytes s d was is.
    omega (
      arith,
      count_paths c.self.inside.nodes c.args.self.now c.self.invariant.0 c.self.view_is,
      index_few bytes s d c.args.self.now was is,
    )
