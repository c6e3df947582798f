use Rattle.std.proofs.Common.{arith}
use Rattle.keep_rules.proofs.QueryLemmas.{count_paths, info_answer}
use Rattle.keep_rules.proofs.index.Index.node.Goals as goal

pub info-requires : goal.info-requires
info-requires c =
    omega (arith, c.requires, count_paths c.self.inside.nodes c.args.self.now c.self.invariant.0 c.self.view_is)

pub returns : goal.returns
returns c = info_answer c.self.inside.nodes c.args.self.now c.args.id.0 c.info.result c.self.view_is c.info.ensures
