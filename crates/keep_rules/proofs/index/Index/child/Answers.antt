use Rattle.std.proofs.Common.{◌≡◌, ◌∷◌, ◌++◌, [], ◌∙◌, arith, rules}
use Rattle.keep_rules.specs.Lookup.{number_of, path_numbered}
use Rattle.keep_path.specs.Path.{key}
use Rattle.keep_rules.proofs.QueryLemmas.{count_paths, child_answer, finds}
use Rattle.keep_rules.proofs.index.Index.child.Goals as goal

pub child-requires : goal.child-requires
child-requires c = omega (arith, count_paths c.self.inside.nodes c.args.self.now c.self.invariant.0 c.self.view_is)

pub returns : goal.returns
returns c =
    let same : number_of c.map.result ≡ c.child.result = search rules in
    finds c.args.self.now (path_numbered c.args.self.now c.args.id.0 ++ key c.args.text.now ∷ []) c.map.result
    (same ∙ child_answer c.self.inside.nodes c.args.self.now c.args.id.0 (key c.args.text.now) c.child.result
    record { trie = c.self.invariant.0; view = c.self.view_is; nested = c.requires } c.child.ensures)
