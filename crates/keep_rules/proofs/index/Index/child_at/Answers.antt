use Rattle.std.proofs.Common.{◌≡◌, ◌∙◌, arith, rules}
use Rattle.keep_rules.specs.Lookup.{nth_child, number_of}
use Rattle.keep_rules.proofs.QueryLemmas.{count_paths, nth_answer, indexed_answer, nth_within}
use Rattle.keep_rules.proofs.index.Index.child_at.Goals as goal

pub child_at-requires : goal.child_at-requires
child_at-requires c = omega (arith, count_paths c.self.inside.nodes c.args.self.now c.self.invariant.0 c.self.view_is)

pub returns-clause-node : goal.returns-clause-node
returns-clause-node c =
    let same : number_of c.map.result ≡ c.child_at.result = search rules in
    let found : number_of c.map.result ≡ nth_child c.args.self.now c.args.id.0 c.args.n =
    same ∙ c.child_at.ensures.met
    ∙ nth_answer c.self.inside.nodes c.args.self.now c.args.id.0 c.args.n
    record { trie = c.self.invariant.0; view = c.self.view_is; nested = c.requires } in
    record { found = found; within = nth_within c.args.self.now c.args.id.0 c.args.n c.map.result found }

pub returns-clause-indexed : goal.returns-clause-indexed
returns-clause-indexed c k is =
    let same : number_of c.map.result ≡ c.child_at.result = search rules in
    same ∙ c.child_at.ensures.indexed k
    (indexed_answer c.self.inside.nodes c.args.self.now c.args.id.0 c.args.n k
    record { trie = c.self.invariant.0; view = c.self.view_is; nested = c.requires } is)
