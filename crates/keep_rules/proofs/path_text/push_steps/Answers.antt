use Rattle.std.proofs.Common.{◌∙◌, ◌++◌, ap, arith, sym, append-nil, inr, string_bytes}
use Rattle.keep_path.specs.PathText.{encoded_path}
use Rattle.keep_index_store.specs.Trie.{path_at}
use Rattle.keep_index_store.proofs.Shared.{path_at-root}
use Rattle.keep_rules.proofs.ClimbLemmas.{ancestors_left}
use Rattle.keep_rules.proofs.AddedTexts.{grown, grown_none, grown_then}
use Rattle.keep_rules.proofs.PathRoomLemmas.{ancestor_text, on_err}
use Rattle.keep_rules.proofs.path_text.push_steps.Goals as goal

pub loop-node-init : goal.loop-node-init
loop-node-init c =
    let old = string_bytes c.args.out.now in (
      0,
      c.in_ok-climb.ensures.ancestors,
      sym (ap (λ p. old ++ encoded_path p) (path_at-root c.args.nodes.now.trie) ∙ append-nil old),
      omega arith,
      c.in_ok-climb.ensures.room,
      c.in_ok-climb.ensures.enough,
    )

pub push_last_step-requires : goal.push_last_step-requires
push_last_step-requires c =
    let left =
    ancestors_left c.args.nodes.now.trie c.args.id c.loop-node.ancestors.items c.pop.new.self.items c.in-Some.node
    c.loop-node.invariant.0 c.in-Some.ensures.items c.loop-node.invariant.1 in
    record { later = left.later; within = left.nested }

pub loop-node-preserved : goal.loop-node-preserved
loop-node-preserved c =
    let left =
    ancestors_left c.args.nodes.now.trie c.args.id c.loop-node.ancestors.items c.pop.new.self.items c.in-Some.node
    c.loop-node.invariant.0 c.in-Some.ensures.items c.loop-node.invariant.1 in
    let old = string_bytes c.args.out.now in (
      c.in-Some.node,
      left.rest,
      c.in_ok-push_last_step.ensures.pushed old
          (c.loop-node.invariant.2 ∙ ap (λ i. old ++ encoded_path (path_at c.args.nodes.now.trie i)) (sym left.above)),
      omega (arith, c.loop-node.invariant.3, c.in_ok-push_last_step.ensures.room),
      omega (arith, c.loop-node.invariant.4, c.in-Some.ensures.capacity),
      omega (arith, c.loop-node.invariant.5, c.in-Some.ensures.capacity),
    )

pub returns-in_err-climb-clause-grown : goal.returns-in_err-climb-clause-grown
returns-in_err-climb-clause-grown c = grown_none (string_bytes c.args.out.now)

pub returns-in_err-push_last_step-clause-grown : goal.returns-in_err-push_last_step-clause-grown
returns-in_err-push_last_step-clause-grown c =
    grown_then _ _ _ (grown (string_bytes c.args.out.now) (string_bytes c.loop-node.out) _ c.loop-node.invariant.2)
    c.in_err-push_last_step.ensures.grown

pub returns-in_err-push_last_step-clause-full : goal.returns-in_err-push_last_step-clause-full
returns-in_err-push_last_step-clause-full c =
    let left =
    ancestors_left c.args.nodes.now.trie c.args.id c.loop-node.ancestors.items c.pop.new.self.items c.in-Some.node
    c.loop-node.invariant.0 c.in-Some.ensures.items c.loop-node.invariant.1 in
    let old = string_bytes c.args.out.now in
    let here =
    c.in_err-push_last_step.ensures.full old
    (c.loop-node.invariant.2 ∙ ap (λ i. old ++ encoded_path (path_at c.args.nodes.now.trie i)) (sym left.above)) in
    on_err c.from_residual-in_err-push_last_step.result
    (inr (omega (
      arith,
      here,
      c.loop-node.invariant.3,
      ancestor_text c.args.nodes.now.trie c.requires.trie c.args.id c.pop.new.self.items c.in-Some.node left.rest,
    )))

pub returns-clause-grown : goal.returns-clause-grown
returns-clause-grown c = grown (string_bytes c.args.out.now) (string_bytes c.loop-node.out) _ c.loop-node.invariant.2
