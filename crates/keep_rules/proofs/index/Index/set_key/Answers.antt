use Rattle.std.proofs.Common.{arith}
use Rattle.keep_rules.proofs.QueryLemmas.{count_paths, ends_seen, fresh_seen}
use Rattle.keep_rules.proofs.index.Index.set_key.Goals as goal

pub set_key-requires-clause-node : goal.set_key-requires-clause-node
set_key-requires-clause-node c =
    let nodes = c.self.inside.nodes in (
      omega (arith, c.requires.within, count_paths nodes c.args.self.now c.self.invariant.0 c.self.view_is),
      ends_seen nodes c.args.self.now c.args.id.0 c.self.view_is c.requires.keyed,
    )

pub set_key-requires-clause-fresh : goal.set_key-requires-clause-fresh
set_key-requires-clause-fresh c =
    fresh_seen c.self.inside.nodes c.args.self.now c.args.id.0 c.args.text.now c.self.view_is c.requires.fresh
