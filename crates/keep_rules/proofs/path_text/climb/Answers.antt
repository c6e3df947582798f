use Rattle.std.proofs.Common.{ℕ, List, ◌<◌, ◌≡◌, ◌∙◌, ◌∷◌, ◌++◌, [], ap, arith, length, length-append, subst, sym}
use Rattle.keep_rules.specs.Lookup.{AreAncestors}
use Rattle.keep_index_store.specs.Trie.{parent_at, path_at}
use Rattle.keep_rules.proofs.ClimbLemmas.{ancestors_pushed}
use Rattle.keep_rules.proofs.PathRoomLemmas.{no_steps, on_err, step_more}
use Rattle.keep_rules.proofs.path_text.climb.Goals as goal

pub loop-node-smaller : goal.loop-node-smaller
loop-node-smaller c = c.parent-node.ensures.earlier (omega arith)

pub loop-node-preserved : goal.loop-node-preserved
loop-node-preserved c =
    let nodes = c.args.nodes.now.trie in
    let node = c.loop-node.node in
    let later : 0 < node = omega arith in
    let more : AreAncestors nodes c.args.id (c.loop-node.ancestors.items ++ node ∷ []) c.parent-node.result =
    subst (AreAncestors nodes c.args.id (c.loop-node.ancestors.items ++ node ∷ [])) (sym c.parent-node.ensures.parent)
    (ancestors_pushed nodes c.args.id c.loop-node.ancestors.items node c.loop-node.invariant.ancestors later
    c.loop-node.invariant.nested) in
    let up : length (path_at nodes c.parent-node.result) ≡ length (path_at nodes (parent_at nodes node)) =
    ap (λ i. length (path_at nodes i)) c.parent-node.ensures.parent in
    record {
      nested = omega (arith, c.parent-node.ensures.earlier later, c.loop-node.invariant.nested);
      ancestors =
          subst (λ (ancestors : List ℕ). AreAncestors nodes c.args.id ancestors c.parent-node.result)
          (sym c.in_ok-push.ensures.items) more;
      steps = omega (
        arith,
        up,
        step_more nodes c.requires.trie node later c.loop-node.invariant.nested,
        c.loop-node.invariant.steps,
        ap length c.in_ok-push.ensures.items,
        length-append c.loop-node.ancestors.items (node ∷ []),
      );
      room = omega (arith, c.loop-node.invariant.room, c.in_ok-push.ensures.capacity);
    }

pub returns-in_err-push-clause-full : goal.returns-in_err-push-clause-full
returns-in_err-push-clause-full c =
    let later : 0 < c.loop-node.node = omega arith in
    on_err c.from_residual.result
    (omega (
      arith,
      c.in_err-push.ensures.full,
      c.loop-node.invariant.room,
      c.loop-node.invariant.steps,
      c.loop-node.ancestors.ok.0,
      step_more c.args.nodes.now.trie c.requires.trie c.loop-node.node later c.loop-node.invariant.nested,
    ))

pub returns-clause-enough : goal.returns-clause-enough
returns-clause-enough c =
    let root : c.loop-node.node ≡ 0 = c.loop-node-test.false in
    let none : length (path_at c.args.nodes.now.trie c.loop-node.node) ≡ 0 =
    ap (λ i. length (path_at c.args.nodes.now.trie i)) root ∙ no_steps c.args.nodes.now.trie in
    omega (arith, none, c.loop-node.invariant.steps, c.loop-node.ancestors.ok.0, c.loop-node.ancestors.ok.1)
