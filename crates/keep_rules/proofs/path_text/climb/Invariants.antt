-- The nodes so far are as many as the steps that the path of the last one's parent lacks.
use Rattle.std.proofs.Common.{◌≡◌, ◌+◌, ◌<◌, ◌≤◌, length, vec_capacity}
use Rattle.keep_rules.specs.Lookup.{AreAncestors}
use Rattle.keep_index_store.specs.Trie.{path_at}
use Rattle.keep_rules.proofs.path_text.climb.Given as goal

abbrev pub invariant-loop-node : goal.invariant-loop-node
invariant-loop-node l = record {
  nested : l.node < length l.nodes.trie;
  ancestors : AreAncestors l.nodes.trie l.id l.ancestors.items l.node;
  steps : length l.ancestors.items + length (path_at l.nodes.trie l.node) ≡ length (path_at l.nodes.trie l.id);
  room : vec_capacity l.fn.ancestors ≤ vec_capacity l.ancestors;
}

abbrev pub decreases-loop-node : goal.decreases-loop-node
decreases-loop-node l = l.node
