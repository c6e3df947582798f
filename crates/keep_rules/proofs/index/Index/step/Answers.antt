use Rattle.std.proofs.Common.{◌≡◌, ◌∷◌, ◌++◌, [], ◌∙◌, ap, sym, append_assoc, arith, rules}
use Rattle.keep_rules.specs.Lookup.{number_of, path_numbered}
use Rattle.keep_meaning.specs.Nodes.{node_number}
use Rattle.keep_path.specs.Step.{part_of}
use Rattle.keep_rules.proofs.QueryLemmas.{child_answer, count_paths, finds, none_number, seen_longer}
use Rattle.keep_rules.proofs.index.Index.step.Goals as goal

pub child_by-requires : goal.child_by-requires
child_by-requires c =
    omega (arith, c.requires, count_paths c.self.inside.nodes c.args.self.now c.self.invariant.0 c.self.view_is)

pub returns-clause-node : goal.returns-clause-node
returns-clause-node c =
    let same : number_of c.map.result ≡ c.child_by.result = search rules in
    finds c.args.self.now (path_numbered c.args.self.now c.args.id.0 ++ part_of c.args.step.now ∷ []) c.map.result
    (same ∙ child_answer c.self.inside.nodes c.args.self.now c.args.id.0 (part_of c.args.step.now) c.child_by.result
    record { trie = c.self.invariant.0; view = c.self.view_is; nested = c.requires } c.child_by.ensures)

pub returns-clause-none : goal.returns-clause-none
returns-clause-none c = λ none more.
    let found = (returns-clause-node c).found in
    ap (node_number c.args.self.now.paths)
    (sym (append_assoc (path_numbered c.args.self.now c.args.id.0) (part_of c.args.step.now ∷ []) more))
    ∙ seen_longer c.self.inside.nodes c.args.self.now record { trie = c.self.invariant.0; view = c.self.view_is }
    (path_numbered c.args.self.now c.args.id.0 ++ part_of c.args.step.now ∷ []) more
    (sym found ∙ none_number c.map.result none)
