use Rattle.std.proofs.Common.{◌∙◌, ap, sym}
use Rattle.keep_index_store.specs.Trie.{path_at}
use Rattle.keep_index_store.proofs.Shared.{path_at-root}
use Rattle.keep_rules.proofs.ClimbLemmas.{ancestors_left}
use Rattle.keep_rules.proofs.queries.path_to.Goals as goal

pub loop-node-init : goal.loop-node-init
loop-node-init c = (0, c.in_ok-climb.ensures.ancestors, c.new-path.ensures ∙ sym (path_at-root c.args.nodes.now.trie))

pub push_step-requires-clause-node : goal.push_step-requires-clause-node
push_step-requires-clause-node c =
    let left =
    ancestors_left c.args.nodes.now.trie c.args.id c.loop-node.ancestors.items c.pop.new.self.items c.in-Some.node
    c.loop-node.invariant.0 c.in-Some.ensures.items c.loop-node.invariant.1 in
    record { later = left.later; within = left.nested }

pub push_step-requires-clause-above : goal.push_step-requires-clause-above
push_step-requires-clause-above c =
    c.loop-node.invariant.2
    ∙ ap (path_at c.args.nodes.now.trie)
    (sym (ancestors_left c.args.nodes.now.trie c.args.id c.loop-node.ancestors.items c.pop.new.self.items c.in-Some.node
    c.loop-node.invariant.0 c.in-Some.ensures.items c.loop-node.invariant.1).above)

pub loop-node-preserved : goal.loop-node-preserved
loop-node-preserved c = (
  c.in-Some.node,
  (ancestors_left c.args.nodes.now.trie c.args.id c.loop-node.ancestors.items c.pop.new.self.items c.in-Some.node
      c.loop-node.invariant.0 c.in-Some.ensures.items c.loop-node.invariant.1).rest,
  c.in_ok-push_step.ensures,
)
