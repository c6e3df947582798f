use Rattle.std.proofs.Common.{◌∙◌, arith}
use Rattle.keep_rules.proofs.QueryLemmas.{count_paths, count_answer}
use Rattle.keep_rules.proofs.index.Index.child_count.Goals as goal

pub child_count-requires : goal.child_count-requires
child_count-requires c =
    omega (arith, count_paths c.self.inside.nodes c.args.self.now c.self.invariant.0 c.self.view_is)

pub returns : goal.returns
returns c =
    c.child_count.ensures
    ∙ count_answer c.self.inside.nodes c.args.self.now c.args.id.0
    record { trie = c.self.invariant.0; view = c.self.view_is; nested = c.requires }
