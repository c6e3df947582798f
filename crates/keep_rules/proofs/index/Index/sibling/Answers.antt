use Rattle.std.proofs.Common.{◌≡◌, ℕ, ◌∷◌, ◌++◌, ◌-◌, [], ◌∙◌, ap, sym, take, length, arith, rules, None, Some}
use Rattle.keep_rules.specs.Lookup.{number_of}
use Rattle.keep_meaning.specs.Nodes.{node_number}
use Rattle.keep_path.specs.Path.{key}
use Rattle.keep_rules.proofs.LookupLemmas.{number_is}
use Rattle.keep_rules.proofs.QueryLemmas.{count_paths, child_answer, finds, seen_longer}
use Rattle.keep_rules.proofs.index.Index.sibling.Goals as goal

pub returns-in_err-parent : goal.returns-in_err-parent
returns-in_err-parent c =
    let n : c.saturating_sub.result ≡ length c.args.path.now - 1 =
    omega (arith, c.saturating_sub.ensures, c.len.ensures.count) in
    let none : node_number c.args.self.now.paths (take (length c.args.path.now - 1) c.args.path.now) ≡ None =
    ap (λ (k : ℕ). node_number c.args.self.now.paths (take k c.args.path.now)) (sym n) ∙ sym c.find_first.ensures.found
    ∙ ap number_of (c.in_err-parent.was) in
    finds c.args.self.now (take (length c.args.path.now - 1) c.args.path.now ++ key c.args.text.now ∷ [])
    c.from_residual.result
    (ap number_of c.from_residual.ensures
    ∙ sym (seen_longer c.self.inside.nodes c.args.self.now record { trie = c.self.invariant.0; view = c.self.view_is }
    (take (length c.args.path.now - 1) c.args.path.now) (key c.args.text.now ∷ []) none))

pub child-requires : goal.child-requires
child-requires c =
    omega (
      arith,
      c.in_ok-parent.ensures.within,
      count_paths c.self.inside.nodes c.args.self.now c.self.invariant.0 c.self.view_is,
    )

pub returns : goal.returns
returns c =
    let n : c.saturating_sub.result ≡ length c.args.path.now - 1 =
    omega (arith, c.saturating_sub.ensures, c.len.ensures.count) in
    let found : node_number c.args.self.now.paths (take (length c.args.path.now - 1) c.args.path.now)
    ≡ Some c.in_ok-parent.parent.0 =
    ap (λ (k : ℕ). node_number c.args.self.now.paths (take k c.args.path.now)) (sym n) ∙ sym c.find_first.ensures.found
    ∙ ap number_of (c.in_ok-parent.was) in
    let here =
    number_is c.args.self.now.paths (take (length c.args.path.now - 1) c.args.path.now) c.in_ok-parent.parent.0 found in
    let same : number_of c.map.result ≡ c.child.result = search rules in
    finds c.args.self.now (take (length c.args.path.now - 1) c.args.path.now ++ key c.args.text.now ∷ []) c.map.result
    (same ∙ child_answer c.self.inside.nodes c.args.self.now c.in_ok-parent.parent.0 (key c.args.text.now)
    c.child.result record { trie = c.self.invariant.0; view = c.self.view_is; nested = here.0 } c.child.ensures
    ∙ ap (λ q. node_number c.args.self.now.paths (q ++ key c.args.text.now ∷ [])) here.1)
